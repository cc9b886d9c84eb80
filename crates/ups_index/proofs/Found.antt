-- The rows that a query is put to: each candidate's row, looked up by its step.
use Rattle.std.proofs.Common.{◌≡◌, ℕ, ℤ, zero, suc, ◌<◌, Bool, true, false, cond, List, [], ◌∷◌, length, get_or, map, filter, Contains, refl, sym, ap, ◌∙◌, arith, true≢false}
use Rattle.std.specs.Prelude.{Option, None, Some}
use Rattle.std.specs.List.{list_any, filter_map, cons_option}
use Rattle.std.specs.Str.{bytes_eq}
use Rattle.std.specs.Cmp.Lexicographic.{same_text}
use Rattle.std.proofs.lemmas.List.Folds.{list_any_at}
use Rattle.ups_dataset.specs.Data.{El, elements_of}
use Rattle.ups_match.specs.Class.{first_key, meets_first, class}
use Rattle.ups_match.specs.Matching.{KeySet}
use Rattle.ups_index.specs.Indexed.{indexed_class}
use Rattle.ups_index.specs.Stored.{values_of_row}
use Rattle.ups_index.proofs.Placed.{text_is_itself}
use Rattle.ups_index.proofs.Same.{class_of_rows}

-- the row of a step among rows
abbrev pub attributes_under : List (List ℕ × List El) → List ℕ → Option (List El)
attributes_under [] step = None
attributes_under (r ∷ rs) step = cond (bytes_eq r.0 step) (Some r.1) (attributes_under rs step)

-- no two rows have one step
abbrev pub AreOnce : List (List ℕ × List El) → Type 0
AreOnce [] = Unit {0}
AreOnce (r ∷ rs) = (list_any (λ (q : List ℕ × List El). bytes_eq q.0 r.0) rs ≡ false) × AreOnce rs

own_row : (rows : List (List ℕ × List El)) → AreOnce rows → (r : List ℕ × List El) → Contains rows r → attributes_under rows r.0 ≡ Some r.1
own_row [] once r (k, l, e) = absurd (omega (arith, l))
own_row (q ∷ qs) once r (zero, l, e) =
    ap (λ (b : Bool). cond b (Some q.1) (attributes_under qs r.0)) (ap (λ (t : List ℕ). bytes_eq q.0 t) (sym (ap (λ (x : List ℕ × List El). x.0) e)) ∙ text_is_itself q.0) ∙ ap (λ (x : List ℕ × List El). Some x.1) e
own_row (q ∷ qs) once r (suc k, l, e) =
    let l2 : k < length qs = omega (arith, l) in
    here (bytes_eq q.0 r.0) refl l2 (own_row qs once.1 r (k, l2, e))
  where
    here : (b : Bool) → bytes_eq q.0 r.0 ≡ b → k < length qs → attributes_under qs r.0 ≡ Some r.1 → cond (bytes_eq q.0 r.0) (Some q.1) (attributes_under qs r.0) ≡ Some r.1
    here false is l2 rest = ap (λ (b : Bool). cond b (Some q.1) (attributes_under qs r.0)) is ∙ rest
    here true is l2 rest =
        let same = same_text q.0 r.0 (sym is) in
        let found : bytes_eq (get_or qs k r).0 q.0 ≡ true = ap (λ (x : List ℕ × List El). bytes_eq x.0 q.0) e ∙ ap (λ (t : List ℕ). bytes_eq t q.0) (sym same) ∙ text_is_itself q.0 in
        absurd (true≢false (sym (list_any_at (λ (x : List ℕ × List El). bytes_eq x.0 q.0) qs k r l2 found) ∙ once.0))

tail_has : (q r : List ℕ × List El) (qs : List (List ℕ × List El)) → Contains qs r → Contains (q ∷ qs) r
tail_has q r qs (k, l, e) = (suc k, omega (arith, l), e)

looked_up : (p : List ℕ × List El → Bool) (rows some : List (List ℕ × List El)) → ((r : List ℕ × List El) → Contains some r → attributes_under rows r.0 ≡ Some r.1) → filter_map (attributes_under rows) (map (λ (r : List ℕ × List El). r.0) (filter p some)) ≡ map (λ (r : List ℕ × List El). r.1) (filter p some)
looked_up p rows [] own = refl
looked_up p rows (q ∷ qs) own = here (p q) (looked_up p rows qs (λ r h. own r (tail_has q r qs h))) (own q (0, omega arith, refl))
  where
    here : (b : Bool) → filter_map (attributes_under rows) (map (λ (r : List ℕ × List El). r.0) (filter p qs)) ≡ map (λ (r : List ℕ × List El). r.1) (filter p qs) → attributes_under rows q.0 ≡ Some q.1
        → filter_map (attributes_under rows) (map (λ (r : List ℕ × List El). r.0) (cond b (q ∷ filter p qs) (filter p qs))) ≡ map (λ (r : List ℕ × List El). r.1) (cond b (q ∷ filter p qs) (filter p qs))
    here false rest is = rest
    here true rest is = ap (λ (o : Option (List El)). cons_option o (filter_map (attributes_under rows) (map (λ (r : List ℕ × List El). r.0) (filter p qs)))) is ∙ ap (λ (t : List (List El)). q.1 ∷ t) rest

rows_filtered : (p : List El → Bool) (rows : List (List ℕ × List El)) → map (λ (r : List ℕ × List El). r.1) (filter (λ (r : List ℕ × List El). p r.1) rows) ≡ filter p (map (λ (r : List ℕ × List El). r.1) rows)
rows_filtered p [] = refl
rows_filtered p (r ∷ rs) = here (p r.1) (rows_filtered p rs)
  where
    here : (b : Bool) → map (λ (q : List ℕ × List El). q.1) (filter (λ (q : List ℕ × List El). p q.1) rs) ≡ filter p (map (λ (q : List ℕ × List El). q.1) rs)
        → map (λ (q : List ℕ × List El). q.1) (cond b (r ∷ filter (λ (q : List ℕ × List El). p q.1) rs) (filter (λ (q : List ℕ × List El). p q.1) rs)) ≡ cond b (r.1 ∷ filter p (map (λ (q : List ℕ × List El). q.1) rs)) (filter p (map (λ (q : List ℕ × List El). q.1) rs))
    here true rest = ap (λ (t : List (List El)). r.1 ∷ t) rest
    here false rest = rest

-- The rows of the candidates are the class, where the indexes have of each row, in order, what it stores.
pub candidates_are_class : (configured : ℤ) (keys : KeySet) (rows : List (List ℕ × List El)) → AreOnce rows
    → filter_map (attributes_under rows) (indexed_class (first_key configured keys) (map (λ r. (r.0, values_of_row configured r.1)) rows)) ≡ class configured keys (map (λ r. r.1) rows)
unfolding class
candidates_are_class configured keys rows once =
    ap (filter_map (attributes_under rows)) (class_of_rows configured keys rows)
    ∙ looked_up (λ r. meets_first keys.offset (first_key configured keys) (elements_of r.1)) rows rows (own_row rows once)
    ∙ rows_filtered (λ r. meets_first keys.offset (first_key configured keys) (elements_of r)) rows
