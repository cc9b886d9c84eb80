use Rattle.std.proofs.Common.{map}
use Rattle.ups_dataset.specs.View.{element_view}
use Rattle.ups_dataset.proofs.Merges.{laid_set}
use Rattle.ups_dataset.proofs.set.DataSet.laid_over.Goals as goal

pub from_vec-requires : goal.from_vec-requires
from_vec-requires g c =
    rw (c.in_ok-elements.ensures, c.deref.ensures.value, c.deref-2.ensures.value)
    (laid_set 0 (map element_view c.self.inside.elements.items) (map element_view c.below.inside.elements.items) c.self.invariant.is c.below.invariant.is)
