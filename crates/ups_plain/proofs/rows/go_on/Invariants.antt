use Rattle.std.proofs.Common.{◌≡◌, take}
use Rattle.ups_life.specs.Steps.{past, row_of}
use Rattle.ups_plain.proofs.rows.go_on.Given as goal

abbrev pub invariant-loop-place : goal.invariant-loop-place
invariant-loop-place g l = record {
  row : l.walk.row ≡ row_of l.configuration (past (take l.place l.entries)) l.step;
  count : l.walk.count ≡ l.place;
}
