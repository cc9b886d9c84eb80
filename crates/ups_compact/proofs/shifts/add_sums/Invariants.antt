use Rattle.std.proofs.Common.{◌≡◌, ℕ, List, ◌||◌, take}
use Rattle.ups_compact.specs.Shifts.{has_shift, AreSums}
use Rattle.ups_compact.proofs.shifts.add_sums.Given as goal

abbrev pub invariant-loop-shift : goal.invariant-loop-shift
invariant-loop-shift g l = record {
  sums : AreSums l.first l.second l.initial.sums → AreSums l.first l.second l.sums;
  has : (w : List ℕ) → has_shift l.sums w ≡ has_shift l.initial.sums w || has_shift (take l.shift-index l.of) w;
}
