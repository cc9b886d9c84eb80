use Rattle.std.proofs.Common.{◌≡◌, ◌+◌, ◌++◌, map, length}
use Rattle.ups_dataset.specs.Data.{laid_over}
use Rattle.ups_dataset.specs.Valid.{IsDataSet}
use Rattle.ups_dataset.specs.View.{element_view}
use Rattle.ups_dataset.proofs.merging.merged.Given as goal

abbrev pub invariant-loop-element : goal.invariant-loop-element
invariant-loop-element g l = record {
  laid : laid_over (map element_view l.fn.above) (map element_view l.fn.below) ≡ map element_view l.elements.items ++ laid_over (map element_view l.upper) (map element_view l.lower);
  upper_set : IsDataSet (map element_view l.upper);
  lower_set : IsDataSet (map element_view l.lower);
}

abbrev pub decreases-loop-element : goal.decreases-loop-element
decreases-loop-element g l = length l.upper + length l.lower
