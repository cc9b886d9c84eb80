use Rattle.std.proofs.Common.{◌≡◌, ◌+◌, ◌*◌, map, drop}
use Rattle.ups_dataset.specs.Data.{elements_of, items_of, weight, weight_data}
use Rattle.ups_match.specs.Matching.{any_item}
use Rattle.ups_match.specs.Met.{all_met}
use Rattle.ups_match.specs.Prepared.{key_view, prepared_view}
use Rattle.ups_match.proofs.meeting.+meeting.Given as goal

abbrev pub invariant-meets_all-loop-key : goal.invariant-meets_all-loop-key
invariant-meets_all-loop-key g l = all_met l.offset (elements_of (map key_view (drop l.key-index l.key-items))) (elements_of l.row) ≡ all_met l.offset (elements_of l.keys) (elements_of l.row)

abbrev pub invariant-any_meets-loop-item : goal.invariant-any_meets-loop-item
invariant-any_meets-loop-item g l = any_item (all_met l.offset (elements_of l.keys)) (items_of (drop l.item-index l.items)) ≡ any_item (all_met l.offset (elements_of l.keys)) (items_of l.items)

abbrev pub decreases-meets_all : goal.decreases-meets_all
decreases-meets_all g l = 3 * weight l.keys.now + 1

abbrev pub decreases-is_met : goal.decreases-is_met
decreases-is_met g l = 3 * weight_data (prepared_view l.key.now.value)

abbrev pub decreases-any_meets : goal.decreases-any_meets
decreases-any_meets g l = 3 * weight l.keys.now + 2
