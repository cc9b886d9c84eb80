use Rattle.std.proofs.Common.{◌≡◌, ◌+◌, ◌*◌, length, min, take}
use Rattle.std.specs.List.{flat_map}
use Rattle.ups_dataset.specs.Data.{items_of, weight, weight_data, weight_items}
use Rattle.ups_dataset.specs.View.{element_view, value_view}
use Rattle.ups_dataset.specs.Written.{written_element, sequence_item}
use Rattle.ups_dataset.proofs.writing.+sizing.Given as goal

abbrev pub invariant-set_size-loop-element : goal.invariant-set_size-loop-element
invariant-set_size-loop-element g l = l.total ≡ min (length (flat_map (λ e. written_element l.syntax (element_view e)) (take l.element-index l.element-items))) 18446744073709551615

abbrev pub invariant-items_size-loop-set : goal.invariant-items_size-loop-set
invariant-items_size-loop-set g l = l.total ≡ min (length (flat_map (sequence_item l.syntax) (take l.set-index l.sets))) 18446744073709551615

abbrev pub decreases-items_size : goal.decreases-items_size
decreases-items_size g l = 3 * weight_items (items_of l.sets.now)

abbrev pub decreases-element_size : goal.decreases-element_size
decreases-element_size g l = 3 * weight_data (value_view l.element.now.value) + 1

abbrev pub decreases-set_size : goal.decreases-set_size
decreases-set_size g l = 3 * weight l.set.now + 2
