-- One set laid over another, element by element.
use Rattle.std.specs.Prelude.{◌≡◌, ◌+◌, ◌<◌, List, ◌∷◌, length}
use Rattle.ups_dataset.specs.Data.{El, laid_over}
use Rattle.ups_dataset.specs.Valid.{IsDataSet}

-- the first element of one set laid over another, and what remains of the two sets
pub record IsNextElement (above below : List El) (next : El) (above_left below_left : List El) : Type 0 where
  pub laid : laid_over above below ≡ next ∷ laid_over above_left below_left
  pub above_set : IsDataSet above_left
  pub below_set : IsDataSet below_left
  pub fewer : length above_left + length below_left < length above + length below
