use Rattle.std.proofs.Common.{◌≡◌, map, take}
use Rattle.ups_dataset.specs.Data.{answer}
use Rattle.ups_dataset.specs.View.{element_view}
use Rattle.ups_dataset.proofs.set.DataSet.answer.Given as goal

abbrev pub invariant-loop-key : goal.invariant-loop-key
invariant-loop-key g l = map element_view l.elements.items ≡ answer l.self (map element_view (take l.key-index l.key-items))
