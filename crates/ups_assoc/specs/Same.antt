-- Whether two texts are the same.
use Rattle.std.specs.Prelude.{ℕ, Bool, nat_eq, List}
use Rattle.std.specs.Cmp.Lexicographic.{pointwise}

abbrev pub is_same : List ℕ → List ℕ → Bool
is_same a b = pointwise nat_eq a b
