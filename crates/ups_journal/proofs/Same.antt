-- What a test of two texts says of them.
use Rattle.std.proofs.Common.{◌≡◌, ℕ, Bool, true, false, not, nat_eq, List}
use Rattle.std.specs.Cmp.Lexicographic.{pointwise}
use Rattle.std.proofs.lemmas.Slice.Eq.{bytes_eq-Decides}

turned : (b r : Bool) → r ≡ not b → r ≡ false → b ≡ true
turned true r e f = cc
turned false r e f = absurd cc

turned_back : (b r : Bool) → r ≡ not b → r ≡ true → b ≡ false
turned_back true r e f = absurd cc
turned_back false r e f = cc

pub the_same : (a b : List ℕ) (r : Bool) → r ≡ not (pointwise nat_eq a b) → r ≡ false → a ≡ b
the_same a b r e f = (bytes_eq-Decides a b).0 (turned (pointwise nat_eq a b) r e f)

pub another : (a b : List ℕ) (r : Bool) → r ≡ not (pointwise nat_eq a b) → r ≡ true → a ≡ b → ⊥
another a b r e f is = let t = (bytes_eq-Decides a b).1 is in let n = turned_back (pointwise nat_eq a b) r e f in absurd cc
