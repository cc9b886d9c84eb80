use Rattle.std.proofs.Common.{◌≡◌, ◌++◌, ◌+◌, ◌*◌, take}
use Rattle.std.specs.List.{flat_map}
use Rattle.ups_dataset.specs.View.{element_view, value_view}
use Rattle.ups_dataset.specs.Data.{items_of, weight, weight_data, weight_items}
use Rattle.ups_dataset.specs.Written.{written_element, sequence_item}
use Rattle.ups_dataset.proofs.writing.+putting.Given as goal

abbrev pub invariant-put_set-loop-element : goal.invariant-put_set-loop-element
invariant-put_set-loop-element g l = l.out.items ≡ l.fn.out.items ++ flat_map (λ e. written_element l.syntax (element_view e)) (take l.element-index l.element-items)

abbrev pub invariant-put_items-loop-set : goal.invariant-put_items-loop-set
invariant-put_items-loop-set g l = l.out.items ≡ l.fn.out.items ++ flat_map (sequence_item l.syntax) (take l.set-index l.sets)

abbrev pub decreases-put_items : goal.decreases-put_items
decreases-put_items g l = 4 * weight_items (items_of l.sets.now)

abbrev pub decreases-put_element : goal.decreases-put_element
decreases-put_element g l = 4 * weight_data (value_view l.element.now.value) + 1

abbrev pub decreases-put_set : goal.decreases-put_set
decreases-put_set g l = 4 * weight l.set.now + 2

abbrev pub decreases-put_item : goal.decreases-put_item
decreases-put_item g l = 4 * weight l.set.now + 3
