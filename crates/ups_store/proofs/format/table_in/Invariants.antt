use Rattle.std.proofs.Common.{◌≡◌, pos, drop, find}
use Rattle.sqlite_trees.specs.Tree.{has_rowid}
use Rattle.ups_store.proofs.format.table_in.Given as goal

abbrev pub invariant-loop-at : goal.invariant-loop-at
invariant-loop-at l = find (has_rowid (pos 1)) l.rows ≡ find (has_rowid (pos 1)) (drop l.at l.rows)
