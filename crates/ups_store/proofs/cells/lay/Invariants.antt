use Rattle.std.proofs.Common.{◌≡◌, ◌++◌, map, take}
use Rattle.sqlite_value.specs.Value.{owned}
use Rattle.ups_store.proofs.cells.lay.Given as goal

abbrev pub invariant-loop-at : goal.invariant-loop-at
invariant-loop-at l = l.row ≡ l.initial.row ++ map owned (take l.at l.cells)
