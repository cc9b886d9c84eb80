-- The components of a UID, read byte by byte.
use Rattle.std.proofs.Common.{◌≡◌, ◌⊎◌, inl, inr, ℕ, suc, ◌<◌, Bool, true, false, ◌&&◌, ◌||◌, not, cond, ◌==◌, nat_lt, List, [], ◌∷◌, ◌+◌, ◌-◌, drop, take, length, refl, sym, ap, ◌∙◌, arith}
use Rattle.std.specs.List.{list_all, prefix_len, slice_index, slice_split, onto_first}
use Rattle.std.proofs.lemmas.Bool.{and_parts, eq-eqb, eqb-true, false≢true, ne_eqb}
use Rattle.std.proofs.lemmas.Bool.Decides.{nat_tests}
use Rattle.ups_pdu.specs.Padding.{is_nil}
use Rattle.ups_pdu.specs.Identifier.{is_digit, is_dot, is_component}

-- the bytes are the rest of a UID: where a component begins, after a component 0, or inside another one
abbrev pub goes : Bool → Bool → List ℕ → Bool
goes begins zero [] = not begins
goes begins zero (b ∷ bs) = cond (is_dot b) (not begins && goes true false bs) ((not zero && is_digit b) && goes false (begins && (b == 48)) bs)

-- the parts are the rest of a UID, inside a component other than 0
abbrev inside : List (List ℕ) → Bool
inside [] = true
inside (p ∷ ps) = list_all is_digit p && list_all is_component ps

-- the parts are the rest of a UID, after a component 0
abbrev after_zero : List (List ℕ) → Bool
after_zero [] = true
after_zero (p ∷ ps) = is_nil p && list_all is_component ps

grouped : (a b c : Bool) → ((a && b) && c) ≡ (a && (b && c))
grouped true b c = refl
grouped false b c = refl

sorted : (short zero dig all rest : Bool) → (((short || not zero) && (dig && all)) && rest) ≡ (dig && cond zero ((short && all) && rest) (all && rest))
sorted true true true all rest = refl
sorted true true false all rest = refl
sorted true false true all rest = refl
sorted true false false all rest = refl
sorted false true true all rest = refl
sorted false true false all rest = refl
sorted false false true all rest = refl
sorted false false false all rest = refl

nil_digits : (p : List ℕ) → (is_nil p && list_all is_digit p) ≡ is_nil p
nil_digits [] = refl
nil_digits (q ∷ qs) = refl

some_lt : (n : ℕ) → 0 < n → nat_lt 0 n ≡ true
some_lt n some = grind (arith, nat_tests)

one_more : (b : ℕ) (p : List ℕ) → is_component (b ∷ p) ≡ ((is_nil p || not (b == 48)) && (is_digit b && list_all is_digit p))
one_more b [] = refl
one_more b (q ∷ qs) = rw (some_lt (length (b ∷ q ∷ qs)) (omega arith), ne_eqb (length (b ∷ q ∷ qs)) 1 (λ same. omega (arith, same))) refl

component_onto : (b : ℕ) (parts : List (List ℕ)) → list_all is_component (onto_first b parts) ≡ (is_digit b && cond (b == 48) (after_zero parts) (inside parts))
component_onto b [] = ap (λ (x : Bool). x && true) (one_more b []) ∙ sorted true (b == 48) (is_digit b) true true
component_onto b (p ∷ ps) =
    ap (λ (x : Bool). x && list_all is_component ps) (one_more b p) ∙ sorted (is_nil p) (b == 48) (is_digit b) (list_all is_digit p) (list_all is_component ps)
    ∙ ap (λ (x : Bool). is_digit b && cond (b == 48) (x && list_all is_component ps) (list_all is_digit p && list_all is_component ps)) (nil_digits p)

inside_onto : (b : ℕ) (parts : List (List ℕ)) → inside (onto_first b parts) ≡ (is_digit b && inside parts)
inside_onto b [] = grouped (is_digit b) true true
inside_onto b (p ∷ ps) = grouped (is_digit b) (list_all is_digit p) (list_all is_component ps)

zero_onto : (b : ℕ) (parts : List (List ℕ)) → after_zero (onto_first b parts) ≡ false
zero_onto b [] = refl
zero_onto b (p ∷ ps) = refl

record Walks (bs : List ℕ) (parts : List (List ℕ)) : Type 0 where
  begins : list_all is_component parts ≡ goes true false bs
  inside : inside parts ≡ goes false false bs
  zero : after_zero parts ≡ goes false true bs

chosen : (bs : List ℕ) (parts : List (List ℕ)) (w : Walks bs parts) (z : Bool) → cond z (after_zero parts) (inside parts) ≡ goes false z bs
chosen bs parts w true = w.zero
chosen bs parts w false = w.inside

record Step (b : ℕ) (bs : List ℕ) (parts : List (List ℕ)) (d : Bool) : Type 0 where
  begins : list_all is_component (cond d ([] ∷ parts) (onto_first b parts)) ≡ cond d false (is_digit b && goes false (b == 48) bs)
  inside : inside (cond d ([] ∷ parts) (onto_first b parts)) ≡ cond d (goes true false bs) (is_digit b && goes false false bs)
  zero : after_zero (cond d ([] ∷ parts) (onto_first b parts)) ≡ cond d (goes true false bs) false

step : (b : ℕ) (bs : List ℕ) (parts : List (List ℕ)) → Walks bs parts → (d : Bool) → Step b bs parts d
step b bs parts w true = record { begins = refl; inside = w.begins; zero = w.begins }
step b bs parts w false = record {
  begins = component_onto b parts ∙ ap (λ (x : Bool). is_digit b && x) (chosen bs parts w (b == 48));
  inside = inside_onto b parts ∙ ap (λ (x : Bool). is_digit b && x) w.inside;
  zero = zero_onto b parts;
}

walks : (bs : List ℕ) → Walks bs (slice_split is_dot bs)
walks [] = record { begins = refl; inside = refl; zero = refl }
walks (b ∷ bs) = let s = step b bs (slice_split is_dot bs) (walks bs) (is_dot b) in record { begins = s.begins; inside = s.inside; zero = s.zero }

pub at_first : (text : List ℕ) → list_all is_component (slice_split is_dot text) ≡ goes true false text
at_first text = (walks text).begins

-- what follows the digits of a component: nothing, or a dot and more components
abbrev pub goes_on : List ℕ → Bool
goes_on [] = true
goes_on (b ∷ bs) = cond (is_dot b) (goes true false bs) false

-- the bytes behind the digits at the front
pub behind_digits : List ℕ → List ℕ
behind_digits [] = []
behind_digits (b ∷ bs) = cond (is_digit b) (behind_digits bs) (b ∷ bs)

digit_no_dot : (b : ℕ) → is_digit b ≡ true → is_dot b ≡ false
digit_no_dot b d = grind (arith, nat_tests)

one_on : (b : ℕ) (bs : List ℕ) (n : ℕ) → drop (1 + n) (b ∷ bs) ≡ drop n bs
one_on b bs n = let e : 1 + n ≡ suc n = omega arith in ap (λ (m : ℕ). drop m (b ∷ bs)) e

dropped : (b : ℕ) (bs : List ℕ) (d : Bool) → drop (prefix_len is_digit bs) bs ≡ behind_digits bs → drop (cond d (1 + prefix_len is_digit bs) 0) (b ∷ bs) ≡ cond d (behind_digits bs) (b ∷ bs)
dropped b bs true h = one_on b bs (prefix_len is_digit bs) ∙ h
dropped b bs false h = refl

pub digits_dropped : (bs : List ℕ) → drop (prefix_len is_digit bs) bs ≡ behind_digits bs
unfolding behind_digits
digits_dropped [] = refl
digits_dropped (b ∷ bs) = dropped b bs (is_digit b) (digits_dropped bs)

ends : (zero : Bool) (b : ℕ) (bs : List ℕ) → is_digit b ≡ false → goes false zero (b ∷ bs) ≡ goes_on (b ∷ bs)
ends zero b bs d = ap (λ (x : Bool). cond (is_dot b) (goes true false bs) ((not zero && x) && goes false false bs)) d ∙ closed zero (is_dot b) (goes true false bs)
  where
    closed : (zero dot more : Bool) → cond dot more ((not zero && false) && goes false false bs) ≡ cond dot more false
    closed true dot more = refl
    closed false dot more = refl

passed : (b : ℕ) (bs : List ℕ) → is_digit b ≡ true → goes false false (b ∷ bs) ≡ goes false false bs
passed b bs d = ap (λ (x : Bool). cond x (goes true false bs) ((not false && is_digit b) && goes false false bs)) (digit_no_dot b d) ∙ ap (λ (x : Bool). x && goes false false bs) d

inside_by : (b : ℕ) (bs : List ℕ) (d : Bool) → is_digit b ≡ d → goes false false bs ≡ goes_on (behind_digits bs) → goes false false (b ∷ bs) ≡ goes_on (cond d (behind_digits bs) (b ∷ bs))
inside_by b bs true d h = passed b bs d ∙ h
inside_by b bs false d h = ends false b bs d

-- inside a component, its digits are passed over
inside_goes_on : (bs : List ℕ) → goes false false bs ≡ goes_on (behind_digits bs)
unfolding behind_digits
inside_goes_on [] = refl
inside_goes_on (b ∷ bs) = inside_by b bs (is_digit b) refl (inside_goes_on bs)

-- after a component 0 no digit follows
zero_goes_on : (bs : List ℕ) → prefix_len is_digit bs ≡ 0 → goes false true bs ≡ goes_on (behind_digits bs)
unfolding behind_digits
zero_goes_on [] none = refl
zero_goes_on (b ∷ bs) none = zero_by b bs (is_digit b) refl none
  where
    zero_by : (b : ℕ) (bs : List ℕ) (d : Bool) → is_digit b ≡ d → cond d (1 + prefix_len is_digit bs) 0 ≡ 0 → goes false true (b ∷ bs) ≡ goes_on (cond d (behind_digits bs) (b ∷ bs))
    zero_by b bs true d none = absurd (omega (arith, none))
    zero_by b bs false d none = ends true b bs d

begun : (b : ℕ) (bs : List ℕ) → is_digit b ≡ true → goes true false (b ∷ bs) ≡ goes false (b == 48) bs
begun b bs d = ap (λ (x : Bool). cond x (not true && goes true false bs) ((not false && is_digit b) && goes false (b == 48) bs)) (digit_no_dot b d) ∙ ap (λ (x : Bool). x && goes false (b == 48) bs) d

unbegun : (b : ℕ) (bs : List ℕ) → is_digit b ≡ false → goes true false (b ∷ bs) ≡ false
unbegun b bs d = ap (λ (x : Bool). cond (is_dot b) false (x && goes false (b == 48) bs)) d ∙ neither (is_dot b)
  where
    neither : (x : Bool) → cond x false false ≡ false
    neither true = refl
    neither false = refl

-- no digits: no component
pub no_digits : (bs : List ℕ) → prefix_len is_digit bs ≡ 0 → goes true false bs ≡ false
no_digits [] none = refl
no_digits (b ∷ bs) none = none_by b bs (is_digit b) refl none
  where
    none_by : (b : ℕ) (bs : List ℕ) (d : Bool) → is_digit b ≡ d → cond d (1 + prefix_len is_digit bs) 0 ≡ 0 → goes true false (b ∷ bs) ≡ false
    none_by b bs true d none = absurd (omega (arith, none))
    none_by b bs false d none = unbegun b bs d

zero_then_digit : (bs : List ℕ) → 0 < prefix_len is_digit bs → goes false true bs ≡ false
zero_then_digit [] some = absurd (omega (arith, some))
zero_then_digit (b ∷ bs) some = then_by b bs (is_digit b) refl some
  where
    then_by : (b : ℕ) (bs : List ℕ) (d : Bool) → is_digit b ≡ d → 0 < cond d (1 + prefix_len is_digit bs) 0 → goes false true (b ∷ bs) ≡ false
    then_by b bs true d some = ap (λ (x : Bool). cond x (goes true false bs) false) (digit_no_dot b d)
    then_by b bs false d some = absurd (omega (arith, some))

-- a zero and more digits: no component
pub leading_zero : (bs : List ℕ) → 1 < prefix_len is_digit bs → slice_index bs 0 ≡ 48 → goes true false bs ≡ false
leading_zero [] more zero = absurd (omega (arith, more))
leading_zero (b ∷ bs) more zero = leads_by (is_digit b) refl more
  where
    leads_by : (d : Bool) → is_digit b ≡ d → 1 < cond d (1 + prefix_len is_digit bs) 0 → goes true false (b ∷ bs) ≡ false
    leads_by true d more = begun b bs d ∙ ap (λ (z : Bool). goes false z bs) (eq-eqb b 48 zero) ∙ zero_then_digit bs (omega (arith, more))
    leads_by false d more = absurd (omega (arith, more))

-- digits without a leading zero: a component, and what follows it
pub component_goes_on : (bs : List ℕ) → 0 < prefix_len is_digit bs → (1 < prefix_len is_digit bs → slice_index bs 0 ≡ 48 → ⊥) → goes true false bs ≡ goes_on (behind_digits bs)
unfolding behind_digits
component_goes_on [] some fine = absurd (omega (arith, some))
component_goes_on (b ∷ bs) some fine = goes_by (is_digit b) refl some fine (b == 48) refl
  where
    goes_by : (d : Bool) → is_digit b ≡ d → 0 < cond d (1 + prefix_len is_digit bs) 0 → (1 < cond d (1 + prefix_len is_digit bs) 0 → b ≡ 48 → ⊥) → (z : Bool) → (b == 48) ≡ z → goes true false (b ∷ bs) ≡ goes_on (cond d (behind_digits bs) (b ∷ bs))
    goes_by true d some fine true z = begun b bs d ∙ ap (λ (x : Bool). goes false x bs) z ∙ zero_goes_on bs (omega (arith, λ (m : 0 < prefix_len is_digit bs). fine (omega (arith, m)) (eqb-true b 48 z)))
    goes_by true d some fine false z = begun b bs d ∙ ap (λ (x : Bool). goes false x bs) z ∙ inside_goes_on bs
    goes_by false d some fine t z = absurd (omega (arith, some))

lt_true : (n : ℕ) → 1 < n → nat_lt 1 n ≡ true
lt_true n more = grind (arith, nat_tests)

true_lt : (n : ℕ) → nat_lt 1 n ≡ true → 1 < n
true_lt n more = grind (arith, nat_tests)

front_first : (bs front : List ℕ) (n : ℕ) → n ≡ prefix_len is_digit bs → front ≡ take n bs → 1 < n → slice_index front 0 ≡ slice_index bs 0
front_first [] front n same is more = absurd (omega (arith, same, more))
front_first (b ∷ bs) front n same is more =
    let e : n ≡ suc (n - 1) = omega (arith, more) in
    ap (λ (l : List ℕ). slice_index l 0) (is ∙ ap (λ (m : ℕ). take m (b ∷ bs)) e)

-- no digits, or a zero before other digits
pub no_component : (bs front : List ℕ) (n : ℕ) → n ≡ prefix_len is_digit bs → length front ≡ n → front ≡ take n bs → (length front ≡ 0) ⊎ ((nat_lt 1 (length front) && (slice_index front 0 == 48)) ≡ true) → goes true false bs ≡ false
no_component bs front n same len is (inl none) = no_digits bs (omega (arith, same, len, none))
no_component bs front n same len is (inr leads) =
    let (longer, zero) = and_parts (nat_lt 1 (length front)) (slice_index front 0 == 48) leads in
    let more : 1 < n = omega (arith, len, true_lt (length front) longer) in
    leading_zero bs (omega (arith, same, more)) (sym (front_first bs front n same is more) ∙ eqb-true (slice_index front 0) 48 zero)

-- a component, and what follows it
pub component_then : (bs front back : List ℕ) (n : ℕ) → n ≡ prefix_len is_digit bs → length front ≡ n → front ≡ take n bs → back ≡ drop n bs → 0 < length front → (nat_lt 1 (length front) && (slice_index front 0 == 48)) ≡ false → goes true false bs ≡ goes_on back
component_then bs front back n same len is rest some fine =
    component_goes_on bs (omega (arith, same, len, some)) (λ more zero.
    let longer : 1 < n = omega (arith, same, more) in
    let long : 1 < length front = omega (arith, len, longer) in
    let leads = ap (λ (x : Bool). x && (slice_index front 0 == 48)) (lt_true (length front) long) ∙ eq-eqb (slice_index front 0) 48 (front_first bs front n same is longer ∙ zero) in
    absurd (false≢true (sym fine ∙ leads)))
    ∙ ap goes_on (sym (digits_dropped bs) ∙ ap (λ (m : ℕ). drop m bs) (sym same) ∙ sym rest)

pub ended : (back : List ℕ) → length back ≡ 0 → goes_on back ≡ true
ended [] none = refl
ended (b ∷ bs) none = absurd (omega (arith, none))

pub no_dot : (back : List ℕ) (b : ℕ) (after : List ℕ) → back ≡ b ∷ after → (b ≡ 46 → ⊥) → goes_on back ≡ false
no_dot back b after is other = ap goes_on is ∙ ap (λ (d : Bool). cond d (goes true false after) false) (ne_eqb b 46 other)

pub dot_then : (back : List ℕ) (b : ℕ) (after : List ℕ) → back ≡ b ∷ after → b ≡ 46 → goes_on back ≡ goes true false after
dot_then back b after is dot = ap goes_on is ∙ ap (λ (d : Bool). cond d (goes true false after) false) (eq-eqb b 46 dot)
