-- What holds of slots as events come and go.
use Rattle.std.proofs.Common.{◌≡◌, ◌<◌, ◌≤◌, ◌+◌, ℕ, zero, suc, Bool, true, false, cond, not, ◌&&◌, ◌||◌, leb, List, [], ◌∷◌, ◌++◌, Option, None, Some, map, filter, length, get_or, refl, sym, ap, ◌∙◌, subst, inl, inr, arith, true≢false, leb-true, leb-false, lt-ltb, le-ltb, ◌⊎◌}
use Rattle.std.specs.Prelude.{is_some}
use Rattle.std.proofs.Common.{set, take, drop, length-append}
use Rattle.std.proofs.lemmas.List.{take-append-drop, take_all, take-append-le, take_more}
use Rattle.std.specs.List.{AllByRecursion}
use Rattle.std.specs.Map.{lookup}
use Rattle.std.specs.Str.{bytes_eq}
use Rattle.std.proofs.lemmas.Slice.Eq.{bytes_eq-Decides}
use Rattle.ups_life.specs.declared.event.Event.{Event}
use Rattle.ups_life.specs.Events.{is_state_report, is_report_of}
use Rattle.ups_events.specs.declared.slots.EventSlot.{EventSlot}
use Rattle.ups_events.specs.Queue.{added, above}
use Rattle.ups_events.specs.Kept.{lives, is_live, spent, made_way, goes, dropped, Rises, Rising, UpTo, Indexed, KeepsQueue}
use Rattle.ups_events.proofs.Spending.{None as NoReport}

pub same_text : (a b : List ℕ) → bytes_eq a b ≡ true → a ≡ b
same_text a b e = (bytes_eq-Decides a b).0 e

text_is_itself : (a : List ℕ) → bytes_eq a a ≡ true
text_is_itself a = (bytes_eq-Decides a a).1 refl

-- equal the one way, equal the other way
pub bytes_turned : (a b : List ℕ) → bytes_eq a b ≡ bytes_eq b a
bytes_turned a b = by (bytes_eq a b) refl (bytes_eq b a) refl
  where
    by : (p : Bool) → bytes_eq a b ≡ p → (q : Bool) → bytes_eq b a ≡ q → bytes_eq a b ≡ bytes_eq b a
    by true e q f = subst (λ (v : List ℕ). bytes_eq a v ≡ bytes_eq v a) (same_text a b e) refl
    by false e true f = subst (λ (v : List ℕ). bytes_eq v b ≡ bytes_eq b v) (same_text b a f) refl
    by false e false f = e ∙ sym f

first_true : (a b : Bool) → (a && b) ≡ true → a ≡ true
first_true true b e = refl
first_true false b e = absurd (true≢false (sym e))

second_true : (a b : Bool) → (a && b) ≡ true → b ≡ true
second_true true b e = e
second_true false b e = absurd (true≢false (sym e))

some_same : (m n : ℕ) → Some m ≡ Some n → m ≡ n
some_same m n e = ap (λ (o : Option ℕ). from o) e
  where
    from : Option ℕ → ℕ
    from None = 0
    from (Some k) = k

-- NUMBERS THAT RISE

pub rising_lower : (a b : ℕ) (ss : List EventSlot) → a ≤ b → Rising b ss → Rising a ss
rising_lower a b [] le r = tt
rising_lower a b (s ∷ ss) le r = (omega (arith, le, r.0), r.1)

rising_at : (low : ℕ) (ss : List EventSlot) → Rising low ss → (i : ℕ) (d : EventSlot) → i < length ss → low < (get_or ss i d).event.number
rising_at low [] r i d l = absurd (omega (arith, l))
rising_at low (s ∷ ss) r zero d l = r.0
rising_at low (s ∷ ss) r (suc i) d l = rising_at low ss (rising_lower low s.event.number ss (omega (arith, r.0)) r.1) i d (omega (arith, l))

pub rises_from : (low : ℕ) (ss : List EventSlot) → Rising low ss → Rises ss
rises_from low [] r i j d a l = absurd (omega (arith, l))
rises_from low (s ∷ ss) r zero zero d a l = absurd (omega (arith, a))
rises_from low (s ∷ ss) r zero (suc j) d a l = rising_at s.event.number ss r.1 j d (omega (arith, l))
rises_from low (s ∷ ss) r (suc i) zero d a l = absurd (omega (arith, a))
rises_from low (s ∷ ss) r (suc i) (suc j) d a l = rises_from s.event.number ss r.1 i j d (omega (arith, a)) (omega (arith, l))

rising_filter : (p : EventSlot → Bool) (low : ℕ) (ss : List EventSlot) → Rising low ss → Rising low (filter p ss)
rising_filter p low [] r = tt
rising_filter p low (s ∷ ss) r = by (rising_filter p s.event.number ss r.1) (p s)
  where
    by : Rising s.event.number (filter p ss) → (b : Bool) → Rising low (cond b (s ∷ filter p ss) (filter p ss))
    by rest true = (r.0, rest)
    by rest false = rising_lower low s.event.number (filter p ss) (omega (arith, r.0)) rest

all_filter : (P : EventSlot → Type 0) (p : EventSlot → Bool) (ss : List EventSlot) → AllByRecursion P ss → AllByRecursion P (filter p ss)
all_filter P p [] h = tt
all_filter P p (s ∷ ss) h = by (all_filter P p ss h.1) (p s)
  where
    by : AllByRecursion P (filter p ss) → (b : Bool) → AllByRecursion P (cond b (s ∷ filter p ss) (filter p ss))
    by rest true = (h.0, rest)
    by rest false = rest

all_at : (P : EventSlot → Type 0) (ss : List EventSlot) → AllByRecursion P ss → (i : ℕ) (d : EventSlot) → i < length ss → P (get_or ss i d)
all_at P [] h i d l = absurd (omega (arith, l))
all_at P (s ∷ ss) h zero d l = h.0
all_at P (s ∷ ss) h (suc i) d l = all_at P ss h.1 i d (omega (arith, l))

-- THE INDEX

abbrev IsIndexed : List (List ℕ × ℕ) → EventSlot → Type 0
IsIndexed index s = s.live ≡ true → is_state_report s.event.kind ≡ true → lookup (bytes_eq s.event.step) index ≡ Some s.event.number

has_number : (index : List (List ℕ × ℕ)) (u : List ℕ) (s : EventSlot) → IsIndexed index s → s.live ≡ true → is_report_of u s.event ≡ true → lookup (bytes_eq u) index ≡ Some s.event.number
has_number index u s h live r = ap (λ (v : List ℕ). lookup (bytes_eq v) index) (sym (same_text s.event.step u (first_true (bytes_eq s.event.step u) (is_state_report s.event.kind) r))) ∙ h live (second_true (bytes_eq s.event.step u) (is_state_report s.event.kind) r)

pub alone_from : (index : List (List ℕ × ℕ)) (ss : List EventSlot) (u : List ℕ) (n : ℕ) → Indexed index ss → lookup (bytes_eq u) index ≡ Some n
    → (i : ℕ) (d : EventSlot) → i < length ss → (get_or ss i d).live ≡ true → is_report_of u (get_or ss i d).event ≡ true → (get_or ss i d).event.number ≡ n
alone_from index ss u n h had i d l live r = some_same _ n (sym (has_number index u (get_or ss i d) (all_at (IsIndexed index) ss h i d l) live r) ∙ had)

pub none_from : (index : List (List ℕ × ℕ)) (ss : List EventSlot) (u : List ℕ) → Indexed index ss → lookup (bytes_eq u) index ≡ None → NoReport u ss
none_from index ss u h none i d l live r = absurd (some_is_some _ (sym (has_number index u (get_or ss i d) (all_at (IsIndexed index) ss h i d l) live r) ∙ none))
  where
    some_is_some : (n : ℕ) → Some n ≡ None → ⊥
    some_is_some n e = true≢false (ap (λ (o : Option ℕ). is_some o) e)

-- A SLOT GOES FROM THE FRONT

module _ (made acked : ℕ) (index new : List (List ℕ × ℕ)) (s : EventSlot) (forgets : (u : List ℕ) → lookup (bytes_eq u) new ≡ cond (s.live && is_report_of u s.event) None (lookup (bytes_eq u) index)) where
  still_indexed : IsIndexed index s → (t : EventSlot) → s.event.number < t.event.number → IsIndexed index t → IsIndexed new t
  still_indexed h t less k live r = forgets t.event.step ∙ by (s.live && is_report_of t.event.step s.event) refl
    where
      by : (b : Bool) → (s.live && is_report_of t.event.step s.event) ≡ b → cond b None (lookup (bytes_eq t.event.step) index) ≡ Some t.event.number
      by false e = k live r
      by true e =
          let one = has_number index t.event.step s h (first_true s.live (is_report_of t.event.step s.event) e) (second_true s.live (is_report_of t.event.step s.event) e) in
          let same = some_same s.event.number t.event.number (sym one ∙ k live r) in absurd (omega (arith, same, less))

  rest_indexed : IsIndexed index s → (low : ℕ) (ss : List EventSlot) → s.event.number ≤ low → Rising low ss → Indexed index ss → Indexed new ss
  rest_indexed h low [] le r k = tt
  rest_indexed h low (t ∷ ss) le r k = (still_indexed h t (omega (arith, le, r.0)) k.0, rest_indexed h t.event.number ss (omega (arith, le, r.0)) r.1 k.1)

  pub pop_keeps : (ss : List EventSlot) → KeepsQueue made acked index (s ∷ ss) → KeepsQueue made acked new ss
  pop_keeps ss k = record {
    rising = rising_lower acked s.event.number ss (omega (arith, k.rising.0)) k.rising.1;
    up_to = k.up_to.1;
    indexed = rest_indexed k.indexed.0 s.event.number ss (omega arith) k.rising.1 k.indexed.1;
  }

-- what stays at the front was neither spent nor acknowledged
stays : (upto : ℕ) (s : EventSlot) → goes upto s ≡ false → (s.live ≡ true) × (upto < s.event.number)
stays upto s g = by s.live refl (leb s.event.number upto) refl g
  where
    by : (l : Bool) → s.live ≡ l → (b : Bool) → leb s.event.number upto ≡ b → (not l || b) ≡ false → (s.live ≡ true) × (upto < s.event.number)
    by true e false f g = (e, let h = leb-false s.event.number upto f in omega (arith, h))
    by true e true f g = absurd (true≢false g)
    by false e b f g = absurd (true≢false g)

pub dropped_rising : (upto low : ℕ) (ss : List EventSlot) → Rising low ss → Rising upto (dropped upto ss)
dropped_rising upto low [] r = tt
dropped_rising upto low (s ∷ ss) r = by (dropped_rising upto s.event.number ss r.1) (goes upto s) refl
  where
    by : Rising upto (dropped upto ss) → (b : Bool) → goes upto s ≡ b → Rising upto (cond b (dropped upto ss) (s ∷ ss))
    by rest true e = rest
    by rest false e = ((stays upto s e).1, r.1)

-- THE EVENTS

pub all_above : (upto low : ℕ) (ss : List EventSlot) → upto ≤ low → Rising low ss → above upto (lives ss) ≡ lives ss
all_above upto low [] le r = refl
all_above upto low (s ∷ ss) le r = by (all_above upto s.event.number ss (omega (arith, le, r.0)) r.1) s.live
  where
    by : above upto (lives ss) ≡ lives ss → (l : Bool) → above upto (cond l (s.event ∷ lives ss) (lives ss)) ≡ cond l (s.event ∷ lives ss) (lives ss)
    by rest true = ap (λ (b : Bool). cond b (s.event ∷ above upto (lives ss)) (above upto (lives ss))) (lt-ltb upto s.event.number (omega (arith, le, r.0))) ∙ ap (λ (xs : List Event). s.event ∷ xs) rest
    by rest false = rest

pub lives_dropped : (upto low : ℕ) (ss : List EventSlot) → Rising low ss → lives (dropped upto ss) ≡ above upto (lives ss)
lives_dropped upto low [] r = refl
lives_dropped upto low (s ∷ ss) r = by (lives_dropped upto s.event.number ss r.1) (goes upto s) refl
  where
    gone : lives (dropped upto ss) ≡ above upto (lives ss) → (l : Bool) → s.live ≡ l → (b : Bool) → leb s.event.number upto ≡ b → (not l || b) ≡ true → lives (dropped upto ss) ≡ above upto (cond l (s.event ∷ lives ss) (lives ss))
    gone rest false e b f g = rest
    gone rest true e false f g = absurd (true≢false (sym g))
    gone rest true e true f g = rest ∙ sym (ap (λ (b : Bool). cond b (s.event ∷ above upto (lives ss)) (above upto (lives ss))) (le-ltb upto s.event.number (leb-true s.event.number upto f)))

    by : lives (dropped upto ss) ≡ above upto (lives ss) → (b : Bool) → goes upto s ≡ b → lives (cond b (dropped upto ss) (s ∷ ss)) ≡ above upto (lives (s ∷ ss))
    by rest true e = gone rest s.live refl (leb s.event.number upto) refl e
    by rest false e = sym (all_above upto upto (s ∷ ss) (omega arith) ((stays upto s e).1, r.1))

lives_filter : (ss : List EventSlot) → lives (filter is_live ss) ≡ lives ss
lives_filter [] = refl
lives_filter (s ∷ ss) = by (lives_filter ss) s.live refl
  where
    by : lives (filter is_live ss) ≡ lives ss → (l : Bool) → s.live ≡ l → lives (cond s.live (s ∷ filter is_live ss) (filter is_live ss)) ≡ cond s.live (s.event ∷ lives ss) (lives ss)
    by rest true e = ap (λ (b : Bool). lives (cond b (s ∷ filter is_live ss) (filter is_live ss))) e ∙ ap (λ (b : Bool). cond b (s.event ∷ lives (filter is_live ss)) (lives (filter is_live ss))) e ∙ ap (λ (xs : List Event). s.event ∷ xs) rest ∙ sym (ap (λ (b : Bool). cond b (s.event ∷ lives ss) (lives ss)) e)
    by rest false e = ap (λ (b : Bool). lives (cond b (s ∷ filter is_live ss) (filter is_live ss))) e ∙ rest ∙ sym (ap (λ (b : Bool). cond b (s.event ∷ lives ss) (lives ss)) e)

lives_spent : (u : List ℕ) (ss : List EventSlot) → lives (map (spent u) ss) ≡ filter (λ y. not (is_report_of u y)) (lives ss)
lives_spent u [] = refl
lives_spent u (s ∷ ss) = by (lives_spent u ss) (is_report_of u s.event) refl s.live refl
  where
    head : EventSlot → List Event
    head t = cond t.live (t.event ∷ lives (map (spent u) ss)) (lives (map (spent u) ss))

    by : lives (map (spent u) ss) ≡ filter (λ y. not (is_report_of u y)) (lives ss) → (b : Bool) → is_report_of u s.event ≡ b → (l : Bool) → s.live ≡ l → head (spent u s) ≡ filter (λ y. not (is_report_of u y)) (cond s.live (s.event ∷ lives ss) (lives ss))
    by rest true e true f = ap (λ (b : Bool). head (cond b (record { event = s.event; live = false }) s)) e ∙ rest ∙ sym (ap (λ (b : Bool). cond (not b) (s.event ∷ filter (λ y. not (is_report_of u y)) (lives ss)) (filter (λ y. not (is_report_of u y)) (lives ss))) e) ∙ sym (ap (λ (l : Bool). filter (λ y. not (is_report_of u y)) (cond l (s.event ∷ lives ss) (lives ss))) f)
    by rest true e false f = ap (λ (b : Bool). head (cond b (record { event = s.event; live = false }) s)) e ∙ rest ∙ sym (ap (λ (l : Bool). filter (λ y. not (is_report_of u y)) (cond l (s.event ∷ lives ss) (lives ss))) f)
    by rest false e true f = ap (λ (b : Bool). head (cond b (record { event = s.event; live = false }) s)) e ∙ ap (λ (l : Bool). cond l (s.event ∷ lives (map (spent u) ss)) (lives (map (spent u) ss))) f ∙ ap (λ (xs : List Event). s.event ∷ xs) rest
        ∙ sym (ap (λ (b : Bool). cond (not b) (s.event ∷ filter (λ y. not (is_report_of u y)) (lives ss)) (filter (λ y. not (is_report_of u y)) (lives ss))) e) ∙ sym (ap (λ (l : Bool). filter (λ y. not (is_report_of u y)) (cond l (s.event ∷ lives ss) (lives ss))) f)
    by rest false e false f = ap (λ (b : Bool). head (cond b (record { event = s.event; live = false }) s)) e ∙ ap (λ (l : Bool). cond l (s.event ∷ lives (map (spent u) ss)) (lives (map (spent u) ss))) f ∙ rest ∙ sym (ap (λ (l : Bool). filter (λ y. not (is_report_of u y)) (cond l (s.event ∷ lives ss) (lives ss))) f)

pub lives_push : (ss : List EventSlot) (s : EventSlot) → s.live ≡ true → lives (ss ++ s ∷ []) ≡ lives ss ++ s.event ∷ []
lives_push [] s e = ap (λ (b : Bool). cond b (s.event ∷ []) []) e
lives_push (t ∷ ss) s e = by (lives_push ss s e) t.live
  where
    by : lives (ss ++ s ∷ []) ≡ lives ss ++ s.event ∷ [] → (l : Bool) → cond l (t.event ∷ lives (ss ++ s ∷ [])) (lives (ss ++ s ∷ [])) ≡ cond l (t.event ∷ lives ss) (lives ss) ++ s.event ∷ []
    by rest true = ap (λ (xs : List Event). t.event ∷ xs) rest
    by rest false = rest

-- two tests that say the same
filter_as : (p q : Event → Bool) → ((x : Event) → p x ≡ q x) → (xs : List Event) → filter p xs ≡ filter q xs
filter_as p q same [] = refl
filter_as p q same (x ∷ xs) = ap (λ (b : Bool). cond b (x ∷ filter p xs) (filter p xs)) (same x) ∙ ap (λ (r : List Event). cond (q x) (x ∷ r) r) (filter_as p q same xs)

filter_all : (p : Event → Bool) → ((x : Event) → p x ≡ true) → (xs : List Event) → filter p xs ≡ xs
filter_all p holds [] = refl
filter_all p holds (x ∷ xs) = ap (λ (b : Bool). cond b (x ∷ filter p xs) (filter p xs)) (holds x) ∙ ap (λ (r : List Event). x ∷ r) (filter_all p holds xs)

pub lives_put : (ss : List EventSlot) (s : EventSlot) → s.live ≡ true → lives (made_way s.event.kind s.event.step ss ++ s ∷ []) ≡ added (lives ss) s.event
lives_put ss s e = lives_push (made_way s.event.kind s.event.step ss) s e ∙ ap (λ (xs : List Event). xs ++ s.event ∷ []) (by (is_state_report s.event.kind))
  where
    turned : (a b c : Bool) → b ≡ c → not (b && a) ≡ not (a && (c && true))
    turned true true true e = refl
    turned true false false e = refl
    turned false true c e = refl
    turned false false c e = refl
    turned true true false e = absurd (true≢false e)
    turned true false true e = absurd (true≢false (sym e))

    never : (a c : Bool) → not (a && (c && false)) ≡ true
    never true true = refl
    never true false = refl
    never false c = refl

    by : (b : Bool) → lives (cond b (map (spent s.event.step) ss) ss) ≡ filter (λ y. not (is_state_report y.kind && (bytes_eq s.event.step y.step && b))) (lives ss)
    by true =
        lives_spent s.event.step ss
        ∙ filter_as (λ y. not (is_report_of s.event.step y)) (λ y. not (is_state_report y.kind && (bytes_eq s.event.step y.step && true))) (λ y. turned (is_state_report y.kind) (bytes_eq y.step s.event.step) (bytes_eq s.event.step y.step) (bytes_turned y.step s.event.step)) (lives ss)
    by false = sym (filter_all (λ y. not (is_state_report y.kind && (bytes_eq s.event.step y.step && false))) (λ y. never (is_state_report y.kind) (bytes_eq s.event.step y.step)) (lives ss))

-- AN EVENT COMES

spent_number : (u : List ℕ) (s : EventSlot) → (spent u s).event ≡ s.event
spent_number u s = by (is_report_of u s.event)
  where
    by : (b : Bool) → (cond b (record { event = s.event; live = false }) s).event ≡ s.event
    by true = refl
    by false = refl

rising_spent : (u : List ℕ) (low : ℕ) (ss : List EventSlot) → Rising low ss → Rising low (map (spent u) ss)
rising_spent u low [] r = tt
rising_spent u low (s ∷ ss) r = subst (λ (x : Event). (low < x.number) × Rising x.number (map (spent u) ss)) (sym (spent_number u s)) (r.0, rising_spent u s.event.number ss r.1)

up_to_spent : (u : List ℕ) (high : ℕ) (ss : List EventSlot) → UpTo high ss → UpTo high (map (spent u) ss)
up_to_spent u high [] h = tt
up_to_spent u high (s ∷ ss) h = (subst (λ (x : Event). x.number ≤ high) (sym (spent_number u s)) h.0, up_to_spent u high ss h.1)

indexed_spent : (index new : List (List ℕ × ℕ)) (u : List ℕ) (n : ℕ) → ((v : List ℕ) → lookup (bytes_eq v) new ≡ cond (bytes_eq u v) (Some n) (lookup (bytes_eq v) index)) → (ss : List EventSlot) → Indexed index ss → Indexed new (map (spent u) ss)
indexed_spent index new u n puts [] h = tt
indexed_spent index new u n puts (s ∷ ss) h = (by (is_report_of u s.event) refl, indexed_spent index new u n puts ss h.1)
  where
    by : (b : Bool) → is_report_of u s.event ≡ b → IsIndexed new (cond b (record { event = s.event; live = false }) s)
    by true e live r = absurd (true≢false (sym live))
    by false e live r = puts s.event.step ∙ ap (λ (b : Bool). cond b (Some n) (lookup (bytes_eq s.event.step) index)) (apart (bytes_eq u s.event.step) refl) ∙ h.0 live r
      where
        apart : (b : Bool) → bytes_eq u s.event.step ≡ b → bytes_eq u s.event.step ≡ false
        apart false f = f
        apart true f = absurd (true≢false (sym (ap (λ (a : Bool). a && is_state_report s.event.kind) (bytes_turned s.event.step u ∙ f) ∙ r) ∙ e))

rising_push : (low : ℕ) (ss : List EventSlot) (s : EventSlot) (high : ℕ) → low ≤ high → high < s.event.number → Rising low ss → UpTo high ss → Rising low (ss ++ s ∷ [])
rising_push low [] s high le less r h = (omega (arith, le, less), tt)
rising_push low (t ∷ ss) s high le less r h = (r.0, rising_push t.event.number ss s high h.0 less r.1 h.1)

up_to_push : (ss : List EventSlot) (s : EventSlot) (high more : ℕ) → high ≤ more → s.event.number ≤ more → UpTo high ss → UpTo more (ss ++ s ∷ [])
up_to_push [] s high more le last h = (last, tt)
up_to_push (t ∷ ss) s high more le last h = (omega (arith, le, h.0), up_to_push ss s high more le last h.1)

all_push : (P : EventSlot → Type 0) (ss : List EventSlot) (s : EventSlot) → AllByRecursion P ss → P s → AllByRecursion P (ss ++ s ∷ [])
all_push P [] s h l = (l, tt)
all_push P (t ∷ ss) s h l = (h.0, all_push P ss s h.1 l)

pub put_keeps : (made acked : ℕ) (index new : List (List ℕ × ℕ)) (ss : List EventSlot) (s : EventSlot) → acked ≤ made → s.event.number ≡ made + 1
    → ((v : List ℕ) → lookup (bytes_eq v) new ≡ cond (is_state_report s.event.kind && bytes_eq s.event.step v) (Some s.event.number) (lookup (bytes_eq v) index)) → KeepsQueue made acked index ss
    → KeepsQueue (made + 1) acked new (made_way s.event.kind s.event.step ss ++ s ∷ [])
put_keeps made acked index new ss s le number puts k = by (is_state_report s.event.kind) refl puts
  where
    by : (b : Bool) → is_state_report s.event.kind ≡ b → ((v : List ℕ) → lookup (bytes_eq v) new ≡ cond (b && bytes_eq s.event.step v) (Some s.event.number) (lookup (bytes_eq v) index)) → KeepsQueue (made + 1) acked new (cond b (map (spent s.event.step) ss) ss ++ s ∷ [])
    by true e puts = record {
      rising = rising_push acked (map (spent s.event.step) ss) s made le (omega (arith, number)) (rising_spent s.event.step acked ss k.rising) (up_to_spent s.event.step made ss k.up_to);
      up_to = up_to_push (map (spent s.event.step) ss) s made (made + 1) (omega arith) (omega (arith, number)) (up_to_spent s.event.step made ss k.up_to);
      indexed = all_push (IsIndexed new) (map (spent s.event.step) ss) s (indexed_spent index new s.event.step s.event.number puts ss k.indexed)
          (λ live r. puts s.event.step ∙ ap (λ (b : Bool). cond b (Some s.event.number) (lookup (bytes_eq s.event.step) index)) (text_is_itself s.event.step));
    }
    by false e puts = record {
      rising = rising_push acked ss s made le (omega (arith, number)) k.rising k.up_to;
      up_to = up_to_push ss s made (made + 1) (omega arith) (omega (arith, number)) k.up_to;
      indexed = all_push (IsIndexed new) ss s (same_index ss k.indexed) (λ live r. absurd (true≢false (sym r ∙ e)));
    }
      where
        same_index : (ss : List EventSlot) → Indexed index ss → Indexed new ss
        same_index [] h = tt
        same_index (t ∷ ss) h = (λ live r. puts t.event.step ∙ h.0 live r, same_index ss h.1)

-- SPENT SLOTS ARE THROWN AWAY

module _ (old new : List EventSlot) (tidied : (new ≡ old) ⊎ (new ≡ filter is_live old)) where
  pub tidy_keeps : (made acked : ℕ) (index : List (List ℕ × ℕ)) → KeepsQueue made acked index old → KeepsQueue made acked index new
  tidy_keeps made acked index k = elim tidied [
    | inl e ↦ subst (KeepsQueue made acked index) (sym e) k
    | inr e ↦ subst (KeepsQueue made acked index) (sym e) (record { rising = rising_filter is_live acked old k.rising; up_to = all_filter (λ (s : EventSlot). s.event.number ≤ made) is_live old k.up_to; indexed = all_filter (IsIndexed index) is_live old k.indexed })
  ]

  pub lives_tidy : lives new ≡ lives old
  lives_tidy = elim tidied [
    | inl e ↦ ap lives e
    | inr e ↦ ap lives e ∙ lives_filter old
  ]

-- THE FIRST EVENTS

pub lives_append : (xs ys : List EventSlot) → lives (xs ++ ys) ≡ lives xs ++ lives ys
lives_append [] ys = refl
lives_append (s ∷ xs) ys = by (lives_append xs ys) s.live
  where
    by : lives (xs ++ ys) ≡ lives xs ++ lives ys → (l : Bool) → cond l (s.event ∷ lives (xs ++ ys)) (lives (xs ++ ys)) ≡ cond l (s.event ∷ lives xs) (lives xs) ++ lives ys
    by rest true = ap (λ (r : List Event). s.event ∷ r) rest
    by rest false = rest

one_at_most : (s : EventSlot) → length (lives (s ∷ [])) ≤ 1
one_at_most s = by s.live
  where
    by : (l : Bool) → length (cond l (s.event ∷ []) []) ≤ 1
    by true = omega arith
    by false = omega arith

-- as many as are asked for were found
pub first_found : (ss : List EventSlot) (i max : ℕ) (found : List Event) → found ≡ lives (take i ss) → length found ≤ max → max ≤ length found → found ≡ take max (lives ss)
first_found ss i max found is most least =
    let all : lives ss ≡ found ++ lives (drop i ss) = ap lives (sym (take-append-drop i ss)) ∙ lives_append (take i ss) (drop i ss) ∙ ap (λ (r : List Event). r ++ lives (drop i ss)) (sym is) in
    sym (take_all max found most) ∙ sym (take-append-le max found (lives (drop i ss)) least) ∙ ap (take max) (sym all)

-- one slot more
pub found_more : (ss : List EventSlot) (i max : ℕ) (s : EventSlot) (found : List Event) → i < length ss → s ≡ get_or ss i s → found ≡ lives (take i ss) → length found < max
    → (found ++ lives (s ∷ []) ≡ lives (take (i + 1) ss)) × (length (found ++ lives (s ∷ [])) ≤ max)
found_more ss i max s found within is so_far less = (
  ap (λ (r : List Event). r ++ lives (s ∷ [])) so_far ∙ sym (lives_append (take i ss) (s ∷ [])) ∙ ap (λ (t : EventSlot). lives (take i ss ++ t ∷ [])) is ∙ ap lives (sym (take_more ss i s within)),
  let n = length-append found (lives (s ∷ [])) in let m = one_at_most s in omega (arith, n, m, less),
)

-- the index in another order
pub keeps_same : (made acked : ℕ) (index new : List (List ℕ × ℕ)) (ss more : List EventSlot) → ((q : List ℕ) → lookup (bytes_eq q) new ≡ lookup (bytes_eq q) index) → more ≡ ss → KeepsQueue made acked index ss → KeepsQueue made acked new more
keeps_same made acked index new ss more same is k = subst (KeepsQueue made acked new) (sym is) (record { rising = k.rising; up_to = k.up_to; indexed = again ss k.indexed })
  where
    again : (ss : List EventSlot) → Indexed index ss → Indexed new ss
    again [] h = tt
    again (s ∷ ss) h = (λ live r. same s.event.step ∙ h.0 live r, again ss h.1)

-- HOW MANY ARE LIVE

-- one slot more in front
pub count_first : (s : EventSlot) (ss : List EventSlot) → cond s.live 1 0 + length (lives ss) ≡ length (lives (s ∷ ss))
count_first s ss = by s.live
  where
    by : (l : Bool) → cond l 1 0 + length (lives ss) ≡ length (cond l (s.event ∷ lives ss) (lives ss))
    by true = omega arith
    by false = omega arith

-- there are no more than slots
pub count_within : (ss : List EventSlot) → length (lives ss) ≤ length ss
count_within [] = omega arith
count_within (s ∷ ss) = by s.live (count_within ss)
  where
    by : (l : Bool) → length (lives ss) ≤ length ss → length (cond l (s.event ∷ lives ss) (lives ss)) ≤ length (s ∷ ss)
    by true rest = omega (arith, rest)
    by false rest = omega (arith, rest)

-- one slot is spent
pub count_set : (ss : List EventSlot) (k : ℕ) (s : EventSlot) → k < length ss → s ≡ get_or ss k s → cond s.live 1 0 + length (lives (set ss k (record { event = s.event; live = false }))) ≡ length (lives ss)
count_set [] k s within is = absurd (omega (arith, within))
count_set (t ∷ ss) zero s within is = subst (λ (q : EventSlot). cond q.live 1 0 + length (lives ss) ≡ length (lives (t ∷ ss))) (sym is) (count_first t ss)
count_set (t ∷ ss) (suc k) s within is = by t.live (count_set ss k s (omega (arith, within)) is)
  where
    rest : List Event
    rest = lives (set ss k (record { event = s.event; live = false }))

    by : (l : Bool) → cond s.live 1 0 + length rest ≡ length (lives ss) → cond s.live 1 0 + length (cond l (t.event ∷ rest) rest) ≡ length (cond l (t.event ∷ lives ss) (lives ss))
    by true one = omega (arith, one)
    by false one = omega (arith, one)
