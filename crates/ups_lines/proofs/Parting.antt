-- Words that a space parts, and the numbers that they are.
use Rattle.std.proofs.Common.{◌≡◌, ℕ, zero, suc, ◌+◌, ◌-◌, ◌*◌, ◌<◌, ◌≤◌, Bool, true, false, cond, not, List, [], ◌∷◌, ◌++◌, length, take, drop, get_or, refl, sym, ap, subst, ◌∙◌, arith, Some, None, length-drop}
use Rattle.std.specs.Char.{digit_value}
use Rattle.std.specs.List.{position, position_or_len, slice_split, onto_first}
use Rattle.std.specs.Str.Parse.{AllDigits, digits_value_after, digits_value}
use Rattle.std.proofs.lemmas.Bool.Decides.{nat_tests}
use Rattle.std.proofs.lemmas.List.{take_all, take_more}
use Rattle.std.proofs.lemmas.List.Splits.{slice_split_first, slice_split-cons_no}
use Rattle.std.proofs.lemmas.List.Quantifiers.{position-Some}
use Rattle.ups_pdu.specs.Padding.{is_space}

chosen : (b : Bool) (n k : ℕ) → cond b (Some n) None ≡ Some k → n ≡ k
chosen true n k e = cc
chosen false n k e = cc

-- the first word ends at the first space
pub first_word : (xs : List ℕ) (k : ℕ) → position is_space xs ≡ Some k → (k < length xs) × (slice_split is_space xs ≡ take k xs ∷ slice_split is_space (drop (k + 1) xs))
first_word xs k e =
    let at : position_or_len is_space xs ≡ k = chosen _ (position_or_len is_space xs) k e in
    let low : k < length xs = (position-Some is_space xs k 0 e).0 in (
      low,
      slice_split_first is_space xs 0 (subst (λ n. n < length xs) (sym at) low) ∙ ap (λ n. take n xs ∷ slice_split is_space (drop (n + 1) xs)) at,
    )

last_step : (x : ℕ) (xs : List ℕ) (b : Bool) → is_space x ≡ b → length (x ∷ xs) ≤ cond (not b) (1 + position_or_len is_space xs) 0 → (length xs ≤ position_or_len is_space xs → slice_split is_space xs ≡ xs ∷ [])
    → slice_split is_space (x ∷ xs) ≡ (x ∷ xs) ∷ []
last_step x xs true e far ih = absurd (omega (arith, far))
last_step x xs false e far ih = slice_split-cons_no is_space x xs e ∙ ap (onto_first x) (ih (omega (arith, far)))

last : (xs : List ℕ) → length xs ≤ position_or_len is_space xs → slice_split is_space xs ≡ xs ∷ []
last [] far = refl
last (x ∷ xs) far = last_step x xs (is_space x) refl far (last xs)

absent : (b : Bool) (n : ℕ) → cond b (Some n) None ≡ None → b ≡ false
absent true n e = cc
absent false n e = refl

-- where there is no space all of it is one word
pub last_word : (xs : List ℕ) → position is_space xs ≡ None → slice_split is_space xs ≡ xs ∷ []
last_word xs e =
    let far : length xs ≤ position_or_len is_space xs = grind (arith, nat_tests, absent _ (position_or_len is_space xs) e) in
    last xs far

value_snoc : (n : ℕ) (xs : List ℕ) (x : ℕ) → digits_value_after 10 n (xs ++ x ∷ []) ≡ digits_value_after 10 n xs * 10 + digit_value x
value_snoc n [] x = refl
value_snoc n (y ∷ ys) x = value_snoc (n * 10 + digit_value y) ys x

digits_snoc : (xs : List ℕ) (x : ℕ) → AllDigits 10 xs → digit_value x < 10 → AllDigits 10 (xs ++ x ∷ [])
digits_snoc [] x all low = (low, tt)
digits_snoc (y ∷ ys) x (first, all) low = (first, digits_snoc ys x all low)

-- one more digit behind the first i
pub digits_next : (word : List ℕ) (i value number total : ℕ) → i < length word → AllDigits 10 (take i word) × (number ≡ digits_value 10 (take i word))
    → (digit_value (get_or word i 0) < 10) × (value ≡ digit_value (get_or word i 0)) → total ≡ number * 10 + value
    → AllDigits 10 (take (i + 1) word) × (total ≡ digits_value 10 (take (i + 1) word))
digits_next word i value number total low (all, so_far) (digit, here) sum =
    let x = get_or word i 0 in
    let more : take (i + 1) word ≡ take i word ++ x ∷ [] = take_more word i 0 low in (
      subst (AllDigits 10) (sym more) (digits_snoc (take i word) x all digit),
      sum ∙ ap (λ n. n * 10 + value) so_far ∙ ap (λ v. digits_value 10 (take i word) * 10 + v) here ∙ sym (ap (digits_value 10) more ∙ value_snoc 0 (take i word) x),
    )

-- the words of a text behind a part of it
pub rest_of : (xs : List ℕ) (n : ℕ) → take (length xs - n) (drop n xs) ≡ drop n xs
rest_of xs n = take_all (length xs - n) (drop n xs) (omega (arith, length-drop n xs))

grows : (n : ℕ) (xs : List ℕ) → n ≤ digits_value_after 10 n xs
grows n [] = omega arith
grows n (x ∷ xs) = omega (arith, grows (n * 10 + digit_value x) xs)

-- the first digits spell no more than all of them
pub up_to : (n i : ℕ) (xs : List ℕ) → digits_value_after 10 n (take i xs) ≤ digits_value_after 10 n xs
up_to n zero xs = grows n xs
up_to n (suc i) [] = omega arith
up_to n (suc i) (x ∷ xs) = up_to (n * 10 + digit_value x) i xs

pub digit_at : (i : ℕ) (xs : List ℕ) → i < length xs → AllDigits 10 xs → digit_value (get_or xs i 0) < 10
digit_at i [] low all = absurd (omega (arith, low))
digit_at zero (x ∷ xs) low (first, all) = first
digit_at (suc i) (x ∷ xs) low (first, all) = digit_at i xs (omega (arith, low)) all
