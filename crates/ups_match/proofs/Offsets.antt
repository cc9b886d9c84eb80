-- What the suffix of a DT is read as.
use Rattle.std.proofs.Common.{◌≡◌, ℕ, Bool, true, false, List, [], ◌∷◌, length, get_or, take, drop, refl, arith, Some, None, ℤ}
use Rattle.std.proofs.lemmas.Bool.Decides.{nat_tests}
use Rattle.ups_match.specs.Moments.{decimal_value, are_four_digits, offset_of, signed_offset}

-- the two halves of four digits
halves : (digits : List ℕ) → length digits ≡ 4 → (take 2 digits ≡ get_or digits 0 48 ∷ get_or digits 1 48 ∷ []) × (drop 2 digits ≡ get_or digits 2 48 ∷ get_or digits 3 48 ∷ [])
halves [] h = absurd (omega arith)
halves (a ∷ []) h = absurd (omega arith)
halves (a ∷ b ∷ []) h = absurd (omega arith)
halves (a ∷ b ∷ c ∷ []) h = absurd (omega arith)
halves (a ∷ b ∷ c ∷ d ∷ []) h = (refl, refl)
halves (a ∷ b ∷ c ∷ d ∷ e ∷ rest) h = absurd (omega arith)

pub offset_bare : (whole : Bool) (configured : ℤ) (suffix : List ℕ) → length suffix ≡ 0 → offset_of whole configured suffix ≡ Some configured
unfolding offset_of
offset_bare whole configured [] h = refl
offset_bare whole configured (sign ∷ digits) h = absurd (omega arith)

pub offset_other : (whole : Bool) (configured : ℤ) (suffix : List ℕ) (sign : ℕ) (digits : List ℕ) → suffix ≡ sign ∷ digits → are_four_digits digits ≡ false → offset_of whole configured suffix ≡ None
unfolding offset_of
offset_other whole configured suffix sign digits e h = rw (e, h)

length_four : (digits : List ℕ) → are_four_digits digits ≡ true → length digits ≡ 4
length_four digits h = grind (arith, nat_tests)

pub offset_written : (whole : Bool) (configured : ℤ) (suffix : List ℕ) (sign : ℕ) (digits : List ℕ) (hours minutes : ℕ) → suffix ≡ sign ∷ digits → are_four_digits digits ≡ true → hours ≡ decimal_value (get_or digits 0 48 ∷ get_or digits 1 48 ∷ []) → minutes ≡ decimal_value (get_or digits 2 48 ∷ get_or digits 3 48 ∷ []) → offset_of whole configured suffix ≡ signed_offset whole sign hours minutes
unfolding offset_of
offset_written whole configured suffix sign digits hours minutes e h p q =
    let both = halves digits (length_four digits h) in
    rw (e, h, both.0, both.1, p, q)
