-- The table of the steps held, as its callers see it.
use Rattle.std.specs.Prelude.{◌≡◌, ◌≤◌, ◌*◌, ℕ, List, Option, length}
use Rattle.ups_dataset.specs.Data.{El}
use Rattle.ups_steps.specs.declared.held.HeldRow.{HeldRow}
use Rattle.ups_steps.specs.Parts.{PartsCover}
use Rattle.ups_steps.specs.Places.{held_in}

-- the steps held, in order of creation, each under its UID, and the number of steps for which there is room besides
pub record StepsView (A : Type 0) : Type 0 where
  pub entries : List (List ℕ × HeldRow A)
  pub spare : ℕ

-- the invariant of the table: `count` places hold a step, no more than half of the places are free, and the parts that were
-- made have the rows of their places
pub record KeepsSteps {A : Type 0} (places : List (List ℕ × Option (HeldRow A))) (count : ℕ) (parts : List (Option (List (List El)))) : Type 0 where
  pub exact : count ≡ length (held_in places)
  pub dense : length places ≤ 2 * count
  pub covered : PartsCover parts places
