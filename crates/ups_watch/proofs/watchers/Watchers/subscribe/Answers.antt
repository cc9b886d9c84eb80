use Rattle.std.proofs.Common.{rules, ◌≡◌, Some, cond, ◌&&◌, eqb, length, ap, ◌∙◌, subst, arith}
use Rattle.std.specs.Str.{bytes_eq}
use Rattle.ups_watch.specs.Rows.{HasWidth}
use Rattle.ups_watch.proofs.Seen.{seen_watching, seen_known, seen_peers}
use Rattle.ups_watch.proofs.watchers.Watchers.subscribe.Goals as goal

pub set_cell-requires-clause-known : goal.set_cell-requires-clause-known
set_cell-requires-clause-known g c = seen_known _ _ c.self.view_is c.args.step ∙ c.requires.known

pub set_cell-requires-clause-width : goal.set_cell-requires-clause-width
set_cell-requires-clause-width g c =
    let n : length c.self.inside.covers.items ≡ c.len.result = search rules in
    subst (λ k. HasWidth k c.self.inside.rows.entries) n c.self.invariant.width

pub set_cell-requires-clause-within : goal.set_cell-requires-clause-within
set_cell-requires-clause-within g c =
    let n : length c.self.inside.covers.items ≡ c.len.result = search rules in
    let e = seen_peers _ _ c.self.view_is in
    omega (arith, n, e, c.requires.peer)

pub invariant_of-self : goal.invariant_of-self
invariant_of-self g c =
    let n : c.len.result ≡ length c.self.inside.covers.items = search rules in
    record { width = subst (λ k. HasWidth k c.set_cell.new.rows.entries) n c.set_cell.ensures.width; blank = c.self.invariant.blank }

pub returns-clause-watching : goal.returns-clause-watching
returns-clause-watching g c p u = c.set_cell.ensures.watching p u ∙ ap (λ x. cond (eqb c.args.peer p && bytes_eq c.args.step u) (Some c.args.subscription) x) (seen_watching _ _ c.self.view_is p u)

pub returns-clause-known : goal.returns-clause-known
returns-clause-known g c u = c.set_cell.ensures.known u ∙ seen_known _ _ c.self.view_is u
