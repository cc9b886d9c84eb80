-- The State Report of a step is spent in its slot, and no other slot changes by that.
use Rattle.std.proofs.Common.{◌≡◌, ◌≢◌, ◌<◌, ◌≤◌, ℕ, zero, suc, Bool, true, false, cond, List, [], ◌∷◌, map, length, get_or, set, refl, sym, ap, ◌∙◌, subst, inl, inr, arith}
use Rattle.std.proofs.Common.{true≢false}
use Rattle.std.proofs.lemmas.Bool.{cases_lt}
use Rattle.std.proofs.lemmas.List.{get_or_default}
use Rattle.std.specs.List.Sorted.{IsNonDecreasingBy}
use Rattle.ups_life.specs.Events.{is_report_of}
use Rattle.ups_events.specs.declared.slots.EventSlot.{EventSlot}
use Rattle.ups_events.specs.Kept.{spent, Rises}

-- no slot but the one at k has a State Report of u that is not spent
abbrev pub NoneBut : ℕ → List ℕ → List EventSlot → Type 0
NoneBut k u ss = (i : ℕ) (d : EventSlot) → i < length ss → i ≢ k → (get_or ss i d).live ≡ true → is_report_of u (get_or ss i d).event ≡ true → ⊥

abbrev pub None : List ℕ → List EventSlot → Type 0
None u ss = (i : ℕ) (d : EventSlot) → i < length ss → (get_or ss i d).live ≡ true → is_report_of u (get_or ss i d).event ≡ true → ⊥

spent_same : (u : List ℕ) (s : EventSlot) → (s.live ≡ true → is_report_of u s.event ≡ true → ⊥) → spent u s ≡ s
spent_same u s n = by (is_report_of u s.event) refl s.live refl
  where
    by : (b : Bool) → is_report_of u s.event ≡ b → (l : Bool) → s.live ≡ l → spent u s ≡ s
    by false e l f = ap (λ (b : Bool). cond b (record { event = s.event; live = false }) s) e
    by true e true f = absurd (n f e)
    by true e false f = ap (λ (b : Bool). cond b (record { event = s.event; live = false }) s) e ∙ sym (ap (λ (l : Bool). record { event = s.event; live = l }) f)

pub none_spent : (u : List ℕ) (ss : List EventSlot) → None u ss → ss ≡ map (spent u) ss
none_spent u [] n = refl
none_spent u (s ∷ ss) n = ap (λ (t : EventSlot). t ∷ ss) (sym (spent_same u s (n 0 s (omega arith)))) ∙ ap (λ (r : List EventSlot). spent u s ∷ r) (none_spent u ss (λ i d l. n (suc i) d (omega (arith, l))))

pub one_spent : (u : List ℕ) (ss : List EventSlot) (k : ℕ) (s : EventSlot) → NoneBut k u ss → s ≡ get_or ss k s → k < length ss → is_report_of u s.event ≡ true → set ss k (record { event = s.event; live = false }) ≡ map (spent u) ss
one_spent u [] k s n is within r = absurd (omega (arith, within))
one_spent u (t ∷ ss) zero s n is within r =
    let here : spent u t ≡ record { event = s.event; live = false } = subst (λ (q : EventSlot). spent u q ≡ record { event = s.event; live = false }) is (ap (λ (b : Bool). cond b (record { event = s.event; live = false }) s) r) in
    ap (λ (q : EventSlot). q ∷ ss) (sym here) ∙ ap (λ (q : List EventSlot). spent u t ∷ q) (none_spent u ss (λ i d l. n (suc i) d (omega (arith, l)) (omega arith)))
one_spent u (t ∷ ss) (suc k) s n is within r =
    ap (λ (q : List EventSlot). t ∷ q) (one_spent u ss k s (λ i d l ne. n (suc i) d (omega (arith, l)) (omega (arith, ne))) is (omega (arith, within)) r)
    ∙ ap (λ (q : EventSlot). q ∷ map (spent u) ss) (sym (spent_same u t (n 0 t (omega arith) (omega arith))))

-- the place of the number is the only one
module _ (u : List ℕ) (n : ℕ) (ss : List EventSlot) (rises : Rises ss) (place : ℕ)
    (alone : (i : ℕ) (d : EventSlot) → i < length ss → (get_or ss i d).live ≡ true → is_report_of u (get_or ss i d).event ≡ true → (get_or ss i d).event.number ≡ n)
    (before : (i : ℕ) (d : EventSlot) → i < place → i < length ss → (get_or ss i d).event.number < n) (after : (i : ℕ) (d : EventSlot) → place ≤ i → i < length ss → n ≤ (get_or ss i d).event.number) where
  pub none_but_here : NoneBut place u ss
  none_but_here i d l ne live r =
      let same = alone i d l live r in
      elim (cases_lt i place) [
        | inl a ↦ let b = before i d a l in omega (arith, same, b)
        | inr a ↦ let b = after place d (omega arith) (omega (arith, a, ne, l)) in let c = rises place i d (omega (arith, a, ne)) l in omega (arith, same, b, c)
      ]

  pub none_at_all : length ss ≤ place → None u ss
  none_at_all past i d l live r = let same = alone i d l live r in let b = before i d (omega (arith, l, past)) l in omega (arith, same, b)

  pub none_if_not_here : (s : EventSlot) → s ≡ get_or ss place s → place < length ss → is_report_of u s.event ≡ false → None u ss
  none_if_not_here s is within r i d l live t = elim (cases_lt i place) [
    | inl a ↦ none_but_here i d l (omega (arith, a)) live t
    | inr a ↦ elim (cases_lt place i) [
      | inl b ↦ none_but_here i d l (omega (arith, b)) live t
      | inr b ↦
          let same : i ≡ place = omega (arith, a, b) in
          let e : get_or ss i d ≡ s = ap (λ (q : ℕ). get_or ss q d) same ∙ get_or_default ss place d s within ∙ sym is in
          absurd (true≢false (sym t ∙ ap (λ (q : EventSlot). is_report_of u q.event) e ∙ r))
    ]
  ]

pub rises_by : (ss : List EventSlot) → Rises ss → IsNonDecreasingBy (λ (s : EventSlot). s.event.number) ss
rises_by ss rise i j d le l = grind (arith, rise i j d, λ (same : i ≡ j). ap (λ (q : ℕ). (get_or ss q d).event.number) same)
