-- Context ids that are odd and differ, with those that were met so far.
use Rattle.std.proofs.Common.{◌≡◌, ◌≢◌, ℕ, ◌<◌, Bool, true, false, ◌&&◌, ◌||◌, not, List, [], ◌∷◌, length, get_or, set, map, refl, sym, ap, ◌∙◌, arith}
use Rattle.std.specs.Prelude.{◌==◌, ◌%◌, IsTrue, ◌↔◌}
use Rattle.std.proofs.lemmas.Bool.{eqb-true, eqb-false, eq-eqb}
use Rattle.std.proofs.lemmas.List.{get_or-set_same, get_or-set_other}
use Rattle.std.specs.List.{list_all, list_any}
use Rattle.ups_pdu.specs.Item.{HasContents, IsNext}
use Rattle.ups_pdu.specs.Context.{first_byte, is_odd, are_different, are_context_ids}

abbrev pub is_met : List ℕ → ℕ → Bool
is_met met n = list_any (λ m. m == n) met

-- odd ids that were not met, each met from then on
abbrev pub are_fresh : List ℕ → List ℕ → Bool
are_fresh met [] = true
are_fresh met (n ∷ ns) = is_odd n && (not (is_met met n) && are_fresh (n ∷ met) ns)

abbrev are_new : List ℕ → List ℕ → Bool
are_new met ns = list_all (λ n. not (is_met met n)) ns

and_false : (a : Bool) → (a && false) ≡ false
and_false true = refl
and_false false = refl

four : (a b c d : Bool) → (not (a || b) && (not c && d)) ≡ (not (a || c) && (not b && d))
four true b c d = refl
four false true c d = sym (and_false (not c))
four false false c d = refl

are_new-cons : (n : ℕ) (met ns : List ℕ) → are_new (n ∷ met) ns ≡ (not (list_any (λ m. n == m) ns) && are_new met ns)
are_new-cons n met [] = refl
are_new-cons n met (k ∷ ks) =
    ap (λ (b : Bool). not ((n == k) || is_met met k) && b) (are_new-cons n met ks) ∙ four (n == k) (is_met met k) (list_any (λ m. n == m) ks) (are_new met ks)

six : (o m p d c j : Bool) → (o && (m && (p && (d && (c && j))))) ≡ ((o && p) && ((c && d) && (m && j)))
six false m p d c j = refl
six true m false d c j = and_false m
six true false true d c j = sym (and_false (c && d))
six true true true d true j = refl
six true true true d false j = and_false d

are_fresh-is : (met ns : List ℕ) → are_fresh met ns ≡ (list_all is_odd ns && (are_different ns && are_new met ns))
are_fresh-is met [] = refl
are_fresh-is met (n ∷ ns) =
    ap (λ (b : Bool). is_odd n && (not (is_met met n) && b)) (are_fresh-is (n ∷ met) ns)
    ∙ ap (λ (b : Bool). is_odd n && (not (is_met met n) && (list_all is_odd ns && (are_different ns && b)))) (are_new-cons n met ns)
    ∙ six (is_odd n) (not (is_met met n)) (list_all is_odd ns) (are_different ns) (not (list_any (λ m. n == m) ns)) (are_new met ns)

are_new-nil : (ns : List ℕ) → are_new [] ns ≡ true
are_new-nil [] = refl
are_new-nil (n ∷ ns) = are_new-nil ns

with_true : (a b c : Bool) → c ≡ true → (a && (b && c)) ≡ (a && b)
with_true true true c e = e
with_true true false c e = refl
with_true false b c e = refl

pub fresh_from_start : (ids : List ℕ) → are_context_ids ids ≡ are_fresh [] ids
fresh_from_start ids = sym (are_fresh-is [] ids ∙ with_true (list_all is_odd ids) (are_different ids) (are_new [] ids) (are_new-nil ids))

-- what is left of the contents, and that the ids are right as far as those that are left are fresh
pub record Differ (kind : ℕ) (rest : List ℕ) (met : List ℕ) (found : List (List ℕ)) : Type 0 where
  pub left : List (List ℕ)
  pub has : HasContents kind rest left
  pub on : are_context_ids (map first_byte found) ≡ are_fresh met (map first_byte left)

-- the next id
pub next_id : (kind : ℕ) (rest after content met : List ℕ) (found : List (List ℕ)) → ((left : List (List ℕ)) → HasContents kind rest left → IsNext kind content after left) → (d : Differ kind rest met found)
    → (n : IsNext kind content after d.left)
    → are_context_ids (map first_byte found) ≡ (is_odd (first_byte content) && (not (is_met met (first_byte content)) && are_fresh (first_byte content ∷ met) (map first_byte n.others)))
next_id kind rest after content met found next d n = d.on ∙ ap (λ (l : List (List ℕ)). are_fresh met (map first_byte l)) n.parts

left_out : (o m b c : Bool) → o ≡ true → m ≡ false → c ≡ (o && (not m && b)) → c ≡ b
left_out true false b c p q e = e
left_out true true b c p q e = absurd cc
left_out false m b c p q e = absurd cc

pub goes_on : (kind : ℕ) (rest after content met : List ℕ) (found : List (List ℕ)) → ((left : List (List ℕ)) → HasContents kind rest left → IsNext kind content after left)
    → is_odd (first_byte content) ≡ true → is_met met (first_byte content) ≡ false → Differ kind rest met found → Differ kind after (first_byte content ∷ met) found
goes_on kind rest after content met found next odd new d =
    let n = next d.left d.has in
    record {
      left = n.others;
      has = n.has;
      on = left_out (is_odd (first_byte content)) (is_met met (first_byte content)) (are_fresh (first_byte content ∷ met) (map first_byte n.others)) (are_context_ids (map first_byte found)) odd new (next_id kind rest after content met found next d n);
    }

refused : (o m b c : Bool) → (o ≡ true → m ≡ false → ⊥) → c ≡ (o && (not m && b)) → c ≡ false
refused true false b c none e = absurd (none refl refl)
refused true true b c none e = e
refused false m b c none e = e

pub stops : (kind : ℕ) (rest after content met : List ℕ) (found : List (List ℕ)) → ((left : List (List ℕ)) → HasContents kind rest left → IsNext kind content after left)
    → (is_odd (first_byte content) ≡ true → is_met met (first_byte content) ≡ false → ⊥) → Differ kind rest met found → are_context_ids (map first_byte found) ≡ false
stops kind rest after content met found next none d =
    let n = next d.left d.has in
    refused (is_odd (first_byte content)) (is_met met (first_byte content)) (are_fresh (first_byte content ∷ met) (map first_byte n.others)) (are_context_ids (map first_byte found)) none (next_id kind rest after content met found next d n)

pub all_differ : (kind : ℕ) (rest met : List ℕ) (found : List (List ℕ)) → ((left : List (List ℕ)) → HasContents kind rest left → left ≡ []) → Differ kind rest met found → are_context_ids (map first_byte found) ≡ true
all_differ kind rest met found none d = d.on ∙ ap (λ (l : List (List ℕ)). are_fresh met (map first_byte l)) (none d.left d.has)

-- the marks are those of the ids that were met
abbrev pub Marked : List Bool → List ℕ → Type 0
Marked seen met = (k : ℕ) → k < 256 → get_or seen k false ≡ is_met met k

pub refuses : (b : Bool) → b ≡ false → IsTrue false ↔ IsTrue b
refuses b e = (λ f. e ∙ f, λ t. sym e ∙ t)

pub first_byte-is : (content : List ℕ) → first_byte content ≡ get_or content 0 0
first_byte-is [] = refl
first_byte-is (b ∷ bs) = refl

pub not_odd : (n : ℕ) → n % 2 ≡ 0 → is_odd n ≡ true → ⊥
not_odd n e o = let f : n % 2 ≡ 1 = eqb-true (n % 2) 1 o in omega arith

pub odd : (n : ℕ) → n % 2 ≢ 0 → is_odd n ≡ true
odd n ne = eq-eqb (n % 2) 1 (omega arith)

pub marked_more : (seen : List Bool) (met : List ℕ) (i n : ℕ) → i ≡ n → length seen ≡ 256 → i < 256 → Marked seen met → Marked (set seen i true) (n ∷ met)
marked_more seen met i n same room lt marked k below = at (n == k) refl where
  at : (b : Bool) → (n == k) ≡ b → get_or (set seen i true) k false ≡ ((n == k) || is_met met k)
  at true e =
      let f : i ≡ k = same ∙ eqb-true n k e in
      ap (λ (j : ℕ). get_or (set seen i true) j false) (sym f) ∙ get_or-set_same seen i true false (omega arith) ∙ sym (ap (λ (b : Bool). b || is_met met k) e)
  at false e =
      let ne : n ≡ k → ⊥ = eqb-false n k e in
      get_or-set_other seen i k true false (λ f. ne (sym same ∙ sym f)) ∙ marked k below ∙ sym (ap (λ (b : Bool). b || is_met met k) e)
