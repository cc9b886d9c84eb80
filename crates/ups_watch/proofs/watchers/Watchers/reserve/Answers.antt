use Rattle.std.proofs.Common.{rules, ◌≡◌, length, ap, ◌∙◌, subst, Option, []}
use Rattle.std.specs.Prelude.{is_some}
use Rattle.ups_watch.specs.Rows.{Cells, cell}
use Rattle.std.specs.Option.{unwrap_or}
use Rattle.ups_watch.specs.Table.{WatchersView, AreBlank, cells_of}
use Rattle.ups_watch.proofs.Seen.{seen_watching, seen_known}
use Rattle.ups_watch.proofs.Cells.{width_same}
use Rattle.ups_watch.proofs.watchers.Watchers.reserve.Goals as goal

pub invariant_of-self : goal.invariant_of-self
invariant_of-self g c = record { width = width_same c.self.inside.rows.entries c.reserve.new.self.entries c.reserve.ensures.entries.2 _ c.self.invariant.width; blank = c.self.invariant.blank }

pub invariant_of-self-2 : goal.invariant_of-self-2
invariant_of-self-2 g c =
    let n : c.len.result ≡ length c.self.inside.covers.items = search rules in
    record { width = width_same c.self.inside.rows.entries c.reserve.new.self.entries c.reserve.ensures.entries.2 _ c.self.invariant.width; blank = subst (λ k. AreBlank k c.add_blanks.new.blanks.items) n c.add_blanks.ensures.blank }

pub returns-clause-watching : goal.returns-clause-watching
returns-clause-watching g c p u = ap (cell p) (c.reserve.ensures.entries.2 u) ∙ seen_watching _ _ c.self.view_is p u

pub returns-clause-known : goal.returns-clause-known
returns-clause-known g c u = ap is_some (c.reserve.ensures.entries.2 u) ∙ seen_known _ _ c.self.view_is u

pub returns-clause-cells : goal.returns-clause-cells
returns-clause-cells g c u = ap (λ (o : Option Cells). unwrap_or o []) (c.reserve.ensures.entries.2 u) ∙ ap (λ (t : WatchersView g.row.A.Denot). cells_of t u) c.self.view_is
