use Rattle.std.proofs.Common.{rules, ◌≡◌, Some, cond, ◌&&◌, eqb, length, ap, ◌∙◌, sym, subst, arith}
use Rattle.std.proofs.lemmas.List.{length-set}
use Rattle.ups_life.specs.Watching.{is_among}
use Rattle.ups_watch.specs.Rows.{HasWidth}
use Rattle.ups_watch.specs.Table.{AreBlank}
use Rattle.ups_watch.proofs.Seen.{seen_watching, seen_known, seen_peers}
use Rattle.ups_watch.proofs.watchers.Watchers.global.Goals as goal

pub set_cells-requires-clause-known : goal.set_cells-requires-clause-known
set_cells-requires-clause-known g c u among = seen_known _ _ c.self.view_is u ∙ c.requires.known u among

pub set_cells-requires-clause-width : goal.set_cells-requires-clause-width
set_cells-requires-clause-width g c =
    let n : length c.self.inside.covers.items ≡ c.len.result = search rules in
    subst (λ k. HasWidth k c.self.inside.rows.entries) n c.self.invariant.width

pub set_cells-requires-clause-within : goal.set_cells-requires-clause-within
set_cells-requires-clause-within g c =
    let n : length c.self.inside.covers.items ≡ c.len.result = search rules in
    let e = seen_peers _ _ c.self.view_is in
    omega (arith, n, e, c.requires.peer)

pub invariant_of-self : goal.invariant_of-self
invariant_of-self g c =
    let n : c.len.result ≡ length c.self.inside.covers.items = search rules in
    let m = length-set c.self.inside.covers.items c.args.peer (Some c.args.cover) in
    record { width = subst (λ k. HasWidth k c.set_cells.new.rows.entries) (n ∙ sym m) c.set_cells.ensures.width; blank = subst (λ k. AreBlank k c.self.inside.blanks.items) (sym m) c.self.invariant.blank }

pub returns-clause-watching : goal.returns-clause-watching
returns-clause-watching g c p u = c.set_cells.ensures.watching p u ∙ ap (λ x. cond (eqb c.args.peer p && is_among u c.args.steps.now) (Some c.args.cover.subscription) x) (seen_watching _ _ c.self.view_is p u)

pub returns-clause-known : goal.returns-clause-known
returns-clause-known g c u = c.set_cells.ensures.known u ∙ seen_known _ _ c.self.view_is u
