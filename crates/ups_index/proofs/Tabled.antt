-- The slots at the places of a table.
use Rattle.std.proofs.Common.{◌≡◌, ◌≢◌, ℕ, zero, suc, Bool, true, false, cond, eqb, ◌+◌, ◌<◌, ◌≤◌, List, [], ◌∷◌, ◌++◌, length, get_or, set, refl, sym, ap, ◌∙◌, arith, inl, inr, IsSome, is_some, true≢false}
use Rattle.std.proofs.Common.{Option, None, Some, option_map, option_copied, Bor}
use Rattle.std.specs.Map.{lookup}
use Rattle.std.proofs.lemmas.Bool.{cases_lt, eqb-true, eq-eqb}
use Rattle.ups_index.specs.declared.slot_table.IndexedStep.{IndexedStep}
use Rattle.ups_index.specs.Slots.{IndexSlot, seen_step, slot_in, slots_from}

module _ {A : Type 0} (steps : List (ℕ × IndexedStep A)) where
  pub slots_len : (place count : ℕ) → length (slots_from steps place count) ≡ count
  slots_len place zero = refl
  slots_len place (suc n) = ap suc (slots_len (suc place) n)

  pub slot_at : (place count i : ℕ) → i < count → get_or (slots_from steps place count) i None ≡ slot_in steps (place + i)
  slot_at place zero i l = absurd (omega (arith, l))
  slot_at place (suc n) zero l = let e : place ≡ place + 0 = omega arith in ap (slot_in steps) e
  slot_at place (suc n) (suc i) l = let e : suc place + i ≡ place + suc i = omega arith in slot_at (suc place) n i (omega (arith, l)) ∙ ap (slot_in steps) e

  pub none_at : (place count i : ℕ) → count ≤ i → get_or (slots_from steps place count) i None ≡ None
  none_at place zero i l = refl
  none_at place (suc n) zero l = absurd (omega (arith, l))
  none_at place (suc n) (suc i) l = none_at (suc place) n i (omega (arith, l))

module _ {A : Type 0} (old new : List (ℕ × IndexedStep A)) where
  pub slots_same : (place count : ℕ) → ((p : ℕ) → place ≤ p → slot_in new p ≡ slot_in old p) → slots_from new place count ≡ slots_from old place count
  slots_same place zero same = refl
  slots_same place (suc n) same = λ i. same place (omega arith) i ∷ slots_same (suc place) n (λ p l. same p (omega (arith, l))) i

  -- a slot behind the others
  pub slots_more : (place count : ℕ) (slot : IndexSlot) → ((p : ℕ) → p ≢ place + count → slot_in new p ≡ slot_in old p) → slot_in new (place + count) ≡ slot → slots_from new place (suc count) ≡ slots_from old place count ++ slot ∷ []
  slots_more place zero slot same here = let e : place ≡ place + 0 = omega arith in ap (λ (s : IndexSlot). s ∷ []) (ap (slot_in new) e ∙ here)
  slots_more place (suc n) slot same here =
      let e : suc place + n ≡ place + suc n = omega arith in
      λ i. same place (λ e. omega (arith, e)) i ∷ slots_more (suc place) n slot (λ p d. same p (λ f. d (f ∙ sym e))) (ap (slot_in new) e ∙ here) i

  -- another slot at a place
  pub slots_set : (place count i : ℕ) (slot : IndexSlot) → ((p : ℕ) → p ≢ place + i → slot_in new p ≡ slot_in old p) → slot_in new (place + i) ≡ slot → slots_from new place count ≡ set (slots_from old place count) i slot
  slots_set place zero i slot same here = refl
  slots_set place (suc n) zero slot same here =
      let e : place ≡ place + 0 = omega arith in
      λ j. (ap (slot_in new) e ∙ here) j ∷ slots_same (suc place) n (λ p l. same p (λ f. omega (arith, l, f))) j
  slots_set place (suc n) (suc i) slot same here =
      let e : suc place + i ≡ place + suc i = omega arith in
      λ j. same place (λ f. omega (arith, f)) j ∷ slots_set (suc place) n i slot (λ p d. same p (λ f. d (f ∙ sym e))) (ap (slot_in new) e ∙ here) j

module _ {A : Type 0} (steps : List (ℕ × IndexedStep A)) (count : ℕ) where
  pub slot_is : (i : ℕ) → i < count → get_or (slots_from steps 0 count) i None ≡ slot_in steps i
  slot_is i l = let e : 0 + i ≡ i = omega arith in slot_at steps 0 count i l ∙ ap (slot_in steps) e

  -- a place with a slot that has a step is in the table
  pub none_in : (i : ℕ) → IsSome (get_or (slots_from steps 0 count) i None) → lookup (eqb i) steps ≡ None → ⊥
  none_in i some none = elim (cases_lt i count) [
    | inl l ↦ empty (slot_is i l ∙ ap (option_map seen_step) none)
    | inr b ↦ empty (none_at steps 0 count i b)
  ]
    where
      empty : get_or (slots_from steps 0 count) i None ≡ None → ⊥
      empty e = true≢false (sym some ∙ ap is_some e)

-- a table in which a place has another step, or none
module _ {A : Type 0} (old new : List (ℕ × IndexedStep A)) (at : ℕ) (step : Option (IndexedStep A)) (updates : (p : ℕ) → lookup (eqb p) new ≡ cond (eqb at p) step (lookup (eqb p) old)) where
  apart : (p : ℕ) → p ≢ at → slot_in new p ≡ slot_in old p
  apart p d = by_test (eqb at p) refl
    where
      by_test : (b : Bool) → eqb at p ≡ b → slot_in new p ≡ slot_in old p
      by_test true e = absurd (d (sym (eqb-true at p e)))
      by_test false e = ap (option_map seen_step) (updates p ∙ ap (λ (b : Bool). cond b step (lookup (eqb p) old)) e)

  here : slot_in new at ≡ option_map seen_step step
  here = ap (option_map seen_step) (updates at ∙ ap (λ (b : Bool). cond b step (lookup (eqb at) old)) (eq-eqb at at refl))

  pub slots_pushed : (count : ℕ) → at ≡ count → slots_from new 0 (count + 1) ≡ slots_from old 0 count ++ option_map seen_step step ∷ []
  slots_pushed count is =
      let more : count + 1 ≡ suc count = omega arith in
      let e : 0 + count ≡ at = omega (arith, is) in
      ap (slots_from new 0) more ∙ slots_more old new 0 count (option_map seen_step step) (λ p d. apart p (λ f. d (f ∙ sym e))) (ap (slot_in new) e ∙ here)

  pub slots_changed : (count : ℕ) → slots_from new 0 count ≡ set (slots_from old 0 count) at (option_map seen_step step)
  slots_changed count =
      let e : 0 + at ≡ at = omega arith in
      slots_set old new 0 count at (option_map seen_step step) (λ p d. apart p (λ f. d (f ∙ sym e))) (ap (slot_in new) e ∙ here)

-- what is seen of a step that is lent
pub seen_lent : {A : Type 0} (lent : Option (Bor (IndexedStep A))) → option_map (λ (x : Bor (IndexedStep A)). seen_step x.now) lent ≡ option_map seen_step (option_copied lent)
seen_lent None = refl
seen_lent (Some x) = refl
