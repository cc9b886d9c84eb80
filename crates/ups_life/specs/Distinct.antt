-- Lists of UIDs.
use Rattle.std.specs.Prelude.{◌≡◌, ℕ, false, List, [], ◌∷◌}
use Rattle.std.specs.List.{list_any}
use Rattle.std.specs.Str.{bytes_eq}

-- no UID occurs twice in the list
abbrev pub Distinct : List (List ℕ) → Type 0
Distinct [] = Unit {0}
Distinct (u ∷ us) = (list_any (λ v. bytes_eq v u) us ≡ false) × Distinct us
