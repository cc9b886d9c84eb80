-- Slots in the order of their entries.
use Rattle.std.proofs.Common.{◌≡◌, ◌≢◌, ◌<◌, ◌≤◌, ◌-◌, ℕ, zero, suc, Bool, true, false, cond, List, [], ◌∷◌, ◌++◌, map, filter, length, get_or, refl, sym, ◌∙◌, subst, inl, inr, arith, ◌⊎◌}
use Rattle.std.proofs.lemmas.Bool.{cases_lt}
use Rattle.std.proofs.lemmas.List.{get_or_default, length-map}
use Rattle.std.proofs.lemmas.List.Sorted.{IsNonDecreasingBy-push}
use Rattle.std.proofs.lemmas.List.Kept.{IsNonDecreasingBy-filter}
use Rattle.std.specs.List.{AllByRecursion}
use Rattle.ups_life.specs.declared.event.Event.{Event}
use Rattle.ups_life.specs.declared.event.EventKind.{EventKind}
use Rattle.ups_life.specs.Events.{is_state_report, is_report_of}
use Rattle.ups_events.specs.declared.slots.EventSlot.{EventSlot}
use Rattle.ups_events.specs.Kept.{lives, is_live, spent, made_way, goes, dropped, InOrder}

entry_spent : (u : List ℕ) (ss : List EventSlot) (i : ℕ) (d : EventSlot) → (get_or (map (spent u) ss) i d).event.entry ≡ (get_or ss i d).event.entry
entry_spent u [] i d = refl
entry_spent u (s ∷ ss) (suc i) d = entry_spent u ss i d
entry_spent u (s ∷ ss) zero d = by (is_report_of u s.event)
  where
    by : (b : Bool) → (cond b (record { event = s.event; live = false }) s).event.entry ≡ s.event.entry
    by true = refl
    by false = refl

pub order_made_way : (kind : EventKind) (u : List ℕ) (ss : List EventSlot) → InOrder ss → InOrder (made_way kind u ss)
order_made_way kind u ss h = by (is_state_report kind)
  where
    by : (b : Bool) → InOrder (cond b (map (spent u) ss) ss)
    by false = h
    by true = λ i j d le l. let a = entry_spent u ss i d in let b = entry_spent u ss j d in let n = length-map ss (spent u) in let c = h i j d le (omega (arith, l, n)) in omega (arith, a, b, c)

-- one more slot, which is not below the last one
pub order_push : (ss : List EventSlot) (last s : EventSlot) → InOrder ss → last ≡ get_or ss (length ss - 1) last → last.event.entry ≤ s.event.entry → InOrder (ss ++ s ∷ [])
order_push ss last s h is le = IsNonDecreasingBy-push (λ (t : EventSlot). t.event.entry) ss s h (λ d some. subst (λ (t : EventSlot). t.event.entry ≤ s.event.entry) (is ∙ get_or_default ss (length ss - 1) last d (omega (arith, some))) le)

pub order_dropped : (upto : ℕ) (ss : List EventSlot) → InOrder ss → InOrder (dropped upto ss)
order_dropped upto [] h = h
order_dropped upto (s ∷ ss) h = by (order_dropped upto ss (λ i j d le l. h (suc i) (suc j) d (omega (arith, le)) (omega (arith, l)))) (goes upto s)
  where
    by : InOrder (dropped upto ss) → (b : Bool) → InOrder (cond b (dropped upto ss) (s ∷ ss))
    by rest true = rest
    by rest false = h

pub order_tidy : (old new : List EventSlot) → (new ≡ old) ⊎ (new ≡ filter is_live old) → InOrder old → InOrder new
order_tidy old new tidied h = elim tidied [
  | inl e ↦ subst InOrder (sym e) h
  | inr e ↦ subst InOrder (sym e) (IsNonDecreasingBy-filter (λ (s : EventSlot). s.event.entry) is_live old h)
]

-- where the slots before a place are below an entry, and the others not, one of the entry would stand at the place
pub none_at : (ss : List EventSlot) (entry place : ℕ) → InOrder ss → ((i : ℕ) (d : EventSlot) → i < place → i < length ss → (get_or ss i d).event.entry < entry) → ((i : ℕ) (d : EventSlot) → place ≤ i → i < length ss → entry ≤ (get_or ss i d).event.entry)
    → ((d : EventSlot) → place < length ss → (get_or ss place d).event.entry ≢ entry) → (i : ℕ) (d : EventSlot) → i < length ss → (get_or ss i d).event.entry ≢ entry
none_at ss entry place h before after differs i d l same = elim (cases_lt i place) [
  | inl a ↦ let b = before i d a l in omega (arith, same, b)
  | inr a ↦ let within : place < length ss = omega (arith, a, l) in let b = after place d (omega arith) within in let c = h place i d (omega (arith, a)) l in let e = differs d within in omega (arith, same, b, c, e)
]

-- the live events are of no other entries than the slots
pub none_lives : (entry : ℕ) (ss : List EventSlot) → ((i : ℕ) (d : EventSlot) → i < length ss → (get_or ss i d).event.entry ≢ entry) → AllByRecursion (λ (x : Event). x.entry ≢ entry) (lives ss)
none_lives entry [] n = tt
none_lives entry (s ∷ ss) n = by (none_lives entry ss (λ i d l. n (suc i) d (omega (arith, l)))) s.live
  where
    by : AllByRecursion (λ (x : Event). x.entry ≢ entry) (lives ss) → (b : Bool) → AllByRecursion (λ (x : Event). x.entry ≢ entry) (cond b (s.event ∷ lives ss) (lives ss))
    by rest true = (n 0 s (omega arith), rest)
    by rest false = rest
