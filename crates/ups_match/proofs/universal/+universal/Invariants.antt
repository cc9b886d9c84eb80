use Rattle.std.proofs.Common.{◌≡◌, ◌+◌, ◌*◌, map, drop}
use Rattle.ups_dataset.specs.Data.{elements_of, weight, weight_data}
use Rattle.ups_dataset.specs.View.{element_view, value_view}
use Rattle.ups_match.specs.Matching.{all_universal}
use Rattle.ups_match.proofs.universal.+universal.Given as goal

abbrev pub invariant-all_universal-loop-key : goal.invariant-all_universal-loop-key
invariant-all_universal-loop-key g l = all_universal (elements_of (map element_view (drop l.key-index l.key-items))) ≡ all_universal (elements_of l.keys)

abbrev pub decreases-all_universal : goal.decreases-all_universal
decreases-all_universal g l = 3 * weight l.keys.now + 2

abbrev pub decreases-is_universal_key : goal.decreases-is_universal_key
decreases-is_universal_key g l = 3 * weight_data (value_view l.key.now.value) + 1

abbrev pub decreases-is_universal : goal.decreases-is_universal
decreases-is_universal g l = 3 * weight_data (value_view l.value.now)
