-- What is printed can be read again.
use Rattle.std.proofs.Common.{◌≡◌, ◌≢◌, ◌<◌, ◌/◌, ◌%◌, ◌&&◌, ℕ, suc, Bool, true, false, cond, List, [], ◌∷◌, ◌++◌, All, refl, sym, ap, subst, ◌∙◌, arith, inl, inr}
use Rattle.std.specs.Char.{digit_value}
use Rattle.std.specs.List.{flat_map, AllByRecursion, slice_split, onto_first}
use Rattle.std.proofs.lemmas.List.Splits.{slice_split-cons_no}
use Rattle.std.proofs.lemmas.Bool.Decides.{nat_tests}
use Rattle.std.proofs.lemmas.List.Concat.{flat_map-cons}
use Rattle.ups_pdu.specs.Padding.{is_nil, is_padding, is_space, without_padding}
use Rattle.ups_lines.specs.Escapes.{SpellsByte, StandsFirst, StandsFor}
use Rattle.ups_lines.specs.Printing.{hex_digit, is_plain, printed_byte, printed}

-- the digit of a value below 16 has this value
digit_again : (v : ℕ) → v < 16 → digit_value (hex_digit v) ≡ v
digit_again v low = grind (arith, nat_tests)

spelled : (b : ℕ) → b < 256 → SpellsByte (hex_digit (b / 16)) (hex_digit (b % 16)) b
spelled b low =
    let h : b / 16 < 16 = omega arith in
    let l : b % 16 < 16 = omega arith in
    let e = digit_again (b / 16) h in
    let f = digit_again (b % 16) l in
    record { high_digit = omega (arith, e, h); low_digit = omega (arith, f, l); value = omega (arith, e, f) }

plain_differs : (b : ℕ) → is_plain b ≡ true → b ≢ 37
plain_differs b p is = let q : is_plain 37 ≡ true = ap is_plain (sym is) ∙ p in cc

printed_first : (b : ℕ) (rest : List ℕ) (p : Bool) → is_plain b ≡ p → b < 256 → StandsFirst (printed_byte b ++ rest) b rest
printed_first b rest true p low = inl (plain_differs b p, rw p refl)
printed_first b rest false p low = inr (record { high = hex_digit (b / 16); low = hex_digit (b % 16); parts = rw p refl; spells = spelled b low })

each_again : (bytes : List ℕ) → AllByRecursion (λ b. b < 256) bytes → StandsFor (flat_map printed_byte bytes) bytes
each_again [] all = refl
each_again (b ∷ bs) (low, all) =
    (flat_map printed_byte bs, subst (λ (t : List ℕ). StandsFirst t b (flat_map printed_byte bs)) (sym (flat_map-cons printed_byte b bs)) (printed_first b (flat_map printed_byte bs) (is_plain b) refl low), each_again bs all)

kept_low : (d : Bool) (b : ℕ) (rest : List ℕ) → b < 256 → AllByRecursion (λ x. x < 256) rest → AllByRecursion (λ x. x < 256) (cond (d && is_nil rest) [] (b ∷ rest))
kept_low true b [] low all = tt
kept_low true b (x ∷ xs) low all = (low, all)
kept_low false b rest low all = (low, all)

trimmed_low : (bytes : List ℕ) → AllByRecursion (λ b. b < 256) bytes → AllByRecursion (λ b. b < 256) (without_padding bytes)
trimmed_low [] all = tt
trimmed_low (b ∷ bs) (low, all) = kept_low (is_padding b) b (without_padding bs) low (trimmed_low bs all)

pub printed_again : (value : List ℕ) → AllByRecursion (λ b. b < 256) value → StandsFor (printed value) (without_padding value)
printed_again value all = each_again (without_padding value) (trimmed_low value all)

digit_no_space : (v : ℕ) → is_space (hex_digit v) ≡ false
digit_no_space v = grind (arith, nat_tests)

plain_no_space : (b : ℕ) → is_plain b ≡ true → is_space b ≡ false
plain_no_space b p = grind (arith, nat_tests)

byte_no_space : (b : ℕ) (p : Bool) → is_plain b ≡ p → AllByRecursion (λ x. is_space x ≡ false) (printed_byte b)
byte_no_space b true p = rw p (plain_no_space b p, tt)
byte_no_space b false p = rw p (refl, (digit_no_space (b / 16), (digit_no_space (b % 16), tt)))

all_append : (xs ys : List ℕ) → AllByRecursion (λ x. is_space x ≡ false) xs → AllByRecursion (λ x. is_space x ≡ false) ys → AllByRecursion (λ x. is_space x ≡ false) (xs ++ ys)
all_append [] ys h k = k
all_append (x ∷ xs) ys (first, h) k = (first, all_append xs ys h k)

none_spaced : (bytes : List ℕ) → AllByRecursion (λ x. is_space x ≡ false) (flat_map printed_byte bytes)
none_spaced [] = tt
none_spaced (b ∷ bs) = subst (AllByRecursion (λ x. is_space x ≡ false)) (sym (flat_map-cons printed_byte b bs)) (all_append (printed_byte b) (flat_map printed_byte bs) (byte_no_space b (is_plain b) refl) (none_spaced bs))

undivided : (xs : List ℕ) → AllByRecursion (λ x. is_space x ≡ false) xs → slice_split is_space xs ≡ xs ∷ []
undivided [] h = refl
undivided (x ∷ xs) (first, h) = slice_split-cons_no is_space x xs first ∙ ap (onto_first x) (undivided xs h)

-- what is printed is one word
pub printed_word : (value : List ℕ) → slice_split is_space (printed value) ≡ printed value ∷ []
printed_word value = undivided (printed value) (none_spaced (without_padding value))

each_low : (xs : List ℕ) → All (λ x. x < 256) xs → AllByRecursion (λ x. x < 256) xs
each_low [] all = tt
each_low (x ∷ xs) all = (all 0 0 (omega arith), each_low xs (λ k d low. all (suc k) d (omega (arith, low))))

-- and stands for the value
pub printed_stands : (value : List ℕ) → All (λ x. x < 256) value → StandsFor (printed value) (without_padding value)
printed_stands value all = printed_again value (each_low value all)
