use Rattle.std.proofs.Common.{◌≡◌, ◌+◌, ◌*◌, map, drop}
use Rattle.ups_dataset.specs.Data.{elements_of, items_of, weight, weight_data}
use Rattle.ups_dataset.specs.View.{element_view, value_view}
use Rattle.ups_match.specs.Matching.{all_match, any_item}
use Rattle.ups_match.proofs.matching.+matching.Given as goal

abbrev pub invariant-all_match-loop-key : goal.invariant-all_match-loop-key
invariant-all_match-loop-key g l = all_match l.offset (elements_of (map element_view (drop l.key-index l.key-items))) (elements_of l.row) ≡ all_match l.offset (elements_of l.keys) (elements_of l.row)

abbrev pub invariant-any_item-loop-item : goal.invariant-any_item-loop-item
invariant-any_item-loop-item g l = any_item (all_match l.offset (elements_of l.keys)) (items_of (drop l.item-index l.items)) ≡ any_item (all_match l.offset (elements_of l.keys)) (items_of l.items)

abbrev pub decreases-all_match : goal.decreases-all_match
decreases-all_match g l = 4 * weight l.keys.now + 1

abbrev pub decreases-key_matches : goal.decreases-key_matches
decreases-key_matches g l = 4 * weight_data (value_view l.key.now.value)

abbrev pub decreases-stored_item_matches : goal.decreases-stored_item_matches
decreases-stored_item_matches g l = 4 * weight l.item.now + 3

abbrev pub decreases-any_item : goal.decreases-any_item
decreases-any_item g l = 4 * weight l.keys.now + 2
