-- The elements that a data set holds.
use Rattle.std.specs.Prelude.{List}
use Rattle.std.specs.declared.alloc.Allocator.{Ghosts}
use Rattle.ups_dataset.specs.Data.{El}
use Rattle.ups_dataset.specs.Valid.{IsDataSet}

-- The elements are a data set. The allocator is named here so that a proof about sets on any heap can tell which one
-- it is.
pub record HoldsSet {A : Type 0} (heap : Ghosts A) (set : List El) : Type 0 where
  pub is : IsDataSet set
