-- How a history is kept.
use Rattle.std.specs.Prelude.{◌≡◌, ◌≤◌, ◌+◌, ◌^◌, ℕ, nat_eq, List, [], ◌∷◌, ◌++◌, Some, length, slice_get}
use Rattle.std.specs.Map.{lookup}
use Rattle.std.specs.declared.vec.Vec.{Vec}

-- the entries that were set aside, by the lists in which they were
abbrev pub joined : {X Z : Type 0} → List (Vec X Z × Unit {0}) → List X
joined [] = []
joined (v ∷ vs) = v.0.items ++ joined vs

-- the places of these entries, the first of which stands at a place
abbrev pub places_from : {X : Type 0} → ℕ → List X → List ℕ
places_from place [] = []
places_from place (x ∷ xs) = place ∷ places_from (place + 1) xs

-- the invariant of a history: `first` entries were set aside; those of them that are to be looked at, from a place on, and the
-- older ones, each by its place, are entries at these places
pub record KeepsHistory {X : Type 0} (before recent aside : List X) (first aside_from : ℕ) (older : List (ℕ × X)) : Type 0 where
  pub counted : first ≡ length before
  pub few : first ≤ 2 ^ 62
  pub few_recent : length recent ≤ 2 ^ 62
  pub aside_before : aside_from + length aside ≤ first
  pub aside_is : (k : ℕ) (x : X) → slice_get aside k ≡ Some x → slice_get before (aside_from + k) ≡ Some x
  pub older_is : (p : ℕ) (x : X) → lookup (nat_eq p) older ≡ Some x → slice_get before p ≡ Some x
