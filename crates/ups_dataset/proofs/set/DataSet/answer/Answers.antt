use Rattle.std.proofs.Common.{map}
use Rattle.std.proofs.lemmas.List.{take_all}
use Rattle.ups_dataset.specs.View.{element_view}
use Rattle.ups_dataset.proofs.Answering.{answer_set}
use Rattle.ups_dataset.proofs.set.DataSet.answer.Goals as goal

pub from_vec-requires : goal.from_vec-requires
from_vec-requires g c =
    rw (c.loop-key.invariant, take_all c.loop-key.key-index c.deref-key-items.result.now c.loop-key-test.false, c.deref-key-items.ensures.value, ← c.self.view_is)
    (answer_set 0 (map element_view c.self.inside.elements.items) (map element_view c.keys.inside.elements.items) c.self.invariant.is c.keys.invariant.is)
