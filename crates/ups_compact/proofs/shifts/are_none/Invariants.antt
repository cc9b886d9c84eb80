use Rattle.std.proofs.Common.{◌≡◌, ℕ, List, true, take}
use Rattle.ups_compact.specs.Shifts.{has_shift, less_by}
use Rattle.ups_compact.proofs.shifts.are_none.Given as goal

abbrev pub invariant-loop-shift : goal.invariant-loop-shift
invariant-loop-shift l = (w : List ℕ) → has_shift (take l.shift-index l.shifts) w ≡ true → less_by l.shifts w ≡ 0
