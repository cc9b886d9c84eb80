-- What the fields of a text of digits are, digit by digit.
use Rattle.std.proofs.Common.{◌≡◌, ℕ, Bool, ◌+◌, ◌*◌, ◌<◌, ◌≤◌, List, [], ◌∷◌, length, get_or, take, drop, refl, arith, zero, suc, true, cond, Some, None, replicate, ◌++◌}
use Rattle.std.specs.Prelude.{nat_le}
use Rattle.std.proofs.lemmas.List.{get_or-take}
use Rattle.std.proofs.lemmas.Bool.Decides.{nat_tests}
use Rattle.std.specs.List.{AllPass, prefix_len, take_while}
use Rattle.std.proofs.lemmas.List.Folds.{length-prefix_len}
use Rattle.std.proofs.lemmas.List.Sums.{prefix_len_passes}
use Rattle.ups_match.specs.Moments.{decimal_value, field, microsecond_of}

-- the two elements at a place
take_two : (xs : List ℕ) (place d e : ℕ) → place + 2 ≤ length xs → take 2 (drop place xs) ≡ get_or xs place d ∷ get_or xs (suc place) e ∷ []
take_two [] place d e h = absurd (omega arith)
take_two (x ∷ []) place d e h = absurd (omega arith)
take_two (x ∷ y ∷ rest) zero d e h = refl
take_two (x ∷ y ∷ rest) (suc place) d e h = take_two (y ∷ rest) place d e (omega arith)

pub field_absent : (digits : List ℕ) (place absent : ℕ) → length digits < place + 2 → field digits place absent ≡ absent
unfolding field
field_absent digits place absent h = grind (arith, nat_tests)

pub field_there : (digits : List ℕ) (place absent d e : ℕ) → place + 2 ≤ length digits → field digits place absent ≡ decimal_value (get_or digits place d ∷ get_or digits (place + 1) e ∷ [])
unfolding field
field_there digits place absent d e h =
    let next : place + 1 ≡ suc place = omega arith in
    let two = take_two digits place d e h in
    let fits : nat_le (place + 2) (length digits) ≡ true = grind (arith, nat_tests) in
    rw (fits, two, next)

-- a year is a century and a year of it
pub year_pairs : (digits : List ℕ) → 4 ≤ length digits → decimal_value (take 4 digits) ≡ 100 * decimal_value (get_or digits 0 48 ∷ get_or digits 1 48 ∷ []) + decimal_value (get_or digits 2 48 ∷ get_or digits 3 48 ∷ [])
year_pairs [] h = omega arith
year_pairs (a ∷ []) h = omega arith
year_pairs (a ∷ b ∷ []) h = omega arith
year_pairs (a ∷ b ∷ c ∷ []) h = omega arith
year_pairs (a ∷ b ∷ c ∷ d ∷ rest) h = omega arith

-- the elements from the front on that pass a test pass it
pub passes-front : (p : ℕ → Bool) (xs : List ℕ) → AllPass p (take_while p xs)
passes-front p xs k d h =
    let short : k < prefix_len p xs = omega (arith, length-prefix_len p xs) in
    rw (get_or-take (prefix_len p xs) xs k d short) (prefix_len_passes p xs k d short)

-- the six digits of a fraction, filled up
six : (digits : List ℕ) (absent : ℕ) → take 6 (digits ++ replicate 6 absent) ≡ get_or digits 0 absent ∷ get_or digits 1 absent ∷ get_or digits 2 absent ∷ get_or digits 3 absent ∷ get_or digits 4 absent ∷ get_or digits 5 absent ∷ []
six [] absent = refl
six (a ∷ []) absent = refl
six (a ∷ b ∷ []) absent = refl
six (a ∷ b ∷ c ∷ []) absent = refl
six (a ∷ b ∷ c ∷ d ∷ []) absent = refl
six (a ∷ b ∷ c ∷ d ∷ e ∷ []) absent = refl
six (a ∷ b ∷ c ∷ d ∷ e ∷ f ∷ rest) absent = refl

pub microsecond_pairs : (digits : List ℕ) (upper : Bool) (absent : ℕ) → absent ≡ cond upper 57 48 → microsecond_of (Some digits) upper ≡ (decimal_value (get_or digits 0 absent ∷ get_or digits 1 absent ∷ []) * 100 + decimal_value (get_or digits 2 absent ∷ get_or digits 3 absent ∷ [])) * 100 + decimal_value (get_or digits 4 absent ∷ get_or digits 5 absent ∷ [])
unfolding microsecond_of
microsecond_pairs digits upper absent e = rw (← e, six digits absent) (omega arith)

pub microsecond_none : (upper : Bool) → microsecond_of None upper ≡ microsecond_of (Some []) upper
unfolding microsecond_of
microsecond_none upper = refl
