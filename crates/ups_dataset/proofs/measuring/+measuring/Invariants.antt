use Rattle.std.proofs.Common.{◌≡◌, map, take}
use Rattle.ups_dataset.specs.Data.{elements_of, items_of}
use Rattle.ups_dataset.specs.Valid.{depth_elements, depth_items}
use Rattle.ups_dataset.specs.View.{element_view}
use Rattle.ups_dataset.proofs.measuring.+measuring.Given as goal

abbrev pub invariant-set_depth-loop-element : goal.invariant-set_depth-loop-element
invariant-set_depth-loop-element g l = l.deepest ≡ depth_elements (elements_of (map element_view (take l.element-index l.element-items)))

abbrev pub invariant-value_depth-loop-set : goal.invariant-value_depth-loop-set
invariant-value_depth-loop-set g l = l.deepest ≡ depth_items (items_of (take l.set-index l.set-items))
