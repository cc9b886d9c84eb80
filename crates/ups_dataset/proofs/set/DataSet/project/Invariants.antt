use Rattle.std.proofs.Common.{◌≡◌, map, take, filter}
use Rattle.ups_dataset.specs.Data.{is_listed}
use Rattle.ups_dataset.specs.View.{element_view}
use Rattle.ups_dataset.proofs.set.DataSet.project.Given as goal

abbrev pub invariant-loop-element : goal.invariant-loop-element
invariant-loop-element g l = map element_view l.elements.items ≡ filter (λ e. is_listed e.tag l.tags) (map element_view (take l.element-index l.element-items))
