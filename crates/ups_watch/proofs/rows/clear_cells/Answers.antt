use Rattle.std.proofs.Common.{rules, None, set}
use Rattle.std.proofs.lemmas.Map.Made.{map_same_pairs}
use Rattle.ups_watch.specs.Rows.{Cells}
use Rattle.ups_watch.proofs.Cells.{watching_cleared, known_cleared, width_cleared}
use Rattle.ups_watch.proofs.rows.clear_cells.Goals as goal

pub returns-clause-watching : goal.returns-clause-watching
returns-clause-watching g c =
    let e = map_same_pairs _ (λ (row : Cells). set row c.args.peer None) _ (λ k v b w f' t. search rules) c.args.rows.now.entries c.retain.new.self.entries c.retain.ensures.filtered in
    watching_cleared c.args.rows.now.entries c.retain.new.self.entries c.args.peer e

pub returns-clause-known : goal.returns-clause-known
returns-clause-known g c =
    let e = map_same_pairs _ (λ (row : Cells). set row c.args.peer None) _ (λ k v b w f' t. search rules) c.args.rows.now.entries c.retain.new.self.entries c.retain.ensures.filtered in
    known_cleared c.args.rows.now.entries c.retain.new.self.entries c.args.peer e

pub returns-clause-width : goal.returns-clause-width
returns-clause-width g c =
    let e = map_same_pairs _ (λ (row : Cells). set row c.args.peer None) _ (λ k v b w f' t. search rules) c.args.rows.now.entries c.retain.new.self.entries c.retain.ensures.filtered in
    width_cleared c.args.rows.now.entries c.retain.new.self.entries c.args.peer e c.args.width c.requires.width
