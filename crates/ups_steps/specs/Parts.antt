-- The rows of the steps in parts, each of 64 places: what was made once of a part is kept while it is right.
use Rattle.std.specs.Prelude.{◌≡◌, ℕ, List, [], ◌∷◌, Option, None, Some, take, drop}
use Rattle.ups_dataset.specs.Data.{El}
use Rattle.ups_steps.specs.declared.held.HeldRow.{HeldRow}
use Rattle.ups_steps.specs.Held.{attributes_held}
use Rattle.ups_steps.specs.Places.{held_in}

-- a part that was made has the rows of its places
abbrev pub HasRows : {A : Type 0} → Option (List (List El)) → List (List ℕ × Option (HeldRow A)) → Type 0
HasRows None places = Unit {0}
HasRows (Some rows) places = rows ≡ attributes_held (held_in places)

-- each part that was made has the rows of its places: the first part those of the first 64 places, and so on
abbrev pub PartsCover : {A : Type 0} → List (Option (List (List El))) → List (List ℕ × Option (HeldRow A)) → Type 0
PartsCover [] places = Unit {0}
PartsCover (part ∷ parts) places = HasRows part (take 64 places) × PartsCover parts (drop 64 places)
