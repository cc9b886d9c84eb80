use Rattle.std.proofs.Common.{None, sym, subst}
use Rattle.std.proofs.lemmas.List.{length-set}
use Rattle.ups_watch.specs.Rows.{HasWidth}
use Rattle.ups_watch.specs.Table.{AreBlank}
use Rattle.ups_watch.proofs.Seen.{seen_watching, seen_known}
use Rattle.ups_watch.proofs.watchers.Watchers.suspend.Goals as goal

pub invariant_of-self : goal.invariant_of-self
invariant_of-self g c =
    let m = length-set c.self.inside.covers.items c.args.peer None in
    record { width = subst (λ k. HasWidth k c.self.inside.rows.entries) (sym m) c.self.invariant.width; blank = subst (λ k. AreBlank k c.self.inside.blanks.items) (sym m) c.self.invariant.blank }

pub returns-clause-watching : goal.returns-clause-watching
returns-clause-watching g c p u = seen_watching _ _ c.self.view_is p u

pub returns-clause-known : goal.returns-clause-known
returns-clause-known g c u = seen_known _ _ c.self.view_is u
