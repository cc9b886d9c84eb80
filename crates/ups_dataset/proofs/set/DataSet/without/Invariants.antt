use Rattle.std.proofs.Common.{◌≡◌, map, take, filter, not}
use Rattle.ups_dataset.specs.Tag.{is_tag}
use Rattle.ups_dataset.specs.View.{element_view}
use Rattle.ups_dataset.proofs.set.DataSet.without.Given as goal

abbrev pub invariant-loop-element : goal.invariant-loop-element
invariant-loop-element g l = map element_view l.elements.items ≡ filter (λ e. not (is_tag e.tag l.tag)) (map element_view (take l.element-index l.element-items))
