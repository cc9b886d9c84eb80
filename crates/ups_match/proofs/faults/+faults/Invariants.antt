use Rattle.std.proofs.Common.{◌≡◌, ◌+◌, ◌*◌, map, drop}
use Rattle.ups_dataset.specs.Data.{elements_of, items_of, weight, weight_data, weight_items}
use Rattle.ups_dataset.specs.View.{element_view, value_view}
use Rattle.ups_match.specs.Matching.{keys_fault}
use Rattle.ups_match.proofs.faults.+faults.Given as goal

abbrev pub invariant-keys_fault-loop-key : goal.invariant-keys_fault-loop-key
invariant-keys_fault-loop-key g l = keys_fault l.offset (elements_of (map element_view (drop l.key-index l.key-items))) ≡ keys_fault l.offset (elements_of l.keys)

abbrev pub decreases-keys_fault : goal.decreases-keys_fault
decreases-keys_fault g l = 3 * weight l.keys.now + 2

abbrev pub decreases-key_fault : goal.decreases-key_fault
decreases-key_fault g l = 3 * weight_data (value_view l.key.now.value) + 1

abbrev pub decreases-items_fault : goal.decreases-items_fault
decreases-items_fault g l = 3 * weight_items (items_of l.sets.now)
