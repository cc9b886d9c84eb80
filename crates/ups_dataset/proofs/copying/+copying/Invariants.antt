use Rattle.std.proofs.Common.{◌≡◌, map, take}
use Rattle.ups_dataset.specs.View.{element_view}
use Rattle.ups_dataset.proofs.copying.+copying.Given as goal

abbrev pub invariant-copy_set-loop-element : goal.invariant-copy_set-loop-element
invariant-copy_set-loop-element g l = map element_view l.elements.items ≡ map element_view (take l.element-index l.element-items)

abbrev pub invariant-copy_long_element-loop-set : goal.invariant-copy_long_element-loop-set
invariant-copy_long_element-loop-set g l = l.copies.items ≡ take l.set-index l.set-items
