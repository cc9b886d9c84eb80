-- What a watcher has received and what is pending for it show together what all its events show.
use Rattle.std.proofs.Common.{◌≡◌, ℕ, ◌+◌, ◌<◌, ◌≤◌, Bool, true, false, cond, List, [], ◌∷◌, ◌++◌, length, refl, sym, ap, subst, ◌∙◌, arith, length-append}
use Rattle.std.specs.Prelude.{nat_lt, nat_le}
use Rattle.std.specs.Option.{option_or}
use Rattle.std.specs.Str.{bytes_eq}
use Rattle.std.proofs.lemmas.Bool.Decides.{nat_tests}
use Rattle.std.proofs.lemmas.List.Elements.{filter-append}
use Rattle.ups_life.specs.declared.entry.Entry.{Entry}
use Rattle.ups_life.specs.declared.event.Event.{Event}
use Rattle.ups_life.specs.declared.event.Report.{Report}
use Rattle.ups_life.specs.declared.request.Request.{Request}
use Rattle.ups_life.specs.declared.request.Request.TheVariants.{Ack}
use Rattle.ups_life.specs.declared.request.Reply.TheVariants.{Status as Answered, AckAhead, AckStale}
use Rattle.ups_cycle.specs.declared.status.Status.TheVariants.{Success}
use Rattle.ups_life.specs.Settings.{Settings}
use Rattle.ups_life.specs.Events.{reports_of, numbered, events, acked_after, acked, current, pending, up_to, received_after, received, view}
use Rattle.ups_life.specs.History.{accepts, acknowledged, decided, legal}
use Rattle.ups_life.proofs.Texts.{same_text}
use Rattle.ups_life.proofs.Accepted.{legal_head, legal_tail}
use Rattle.ups_life.proofs.Viewing.{view-append, or_assoc}
use Rattle.ups_life.proofs.Current.{Rising, rising_current, later, all_later, view_current, view_split}

-- EVENTS ARE NUMBERED FROM 1

-- each number is one above the one before it, the first one above n
Counted : ℕ → List Event → Type 0
Counted n [] = Unit {0}
Counted n (x ∷ xs) = (x.number ≡ n + 1) × Counted (n + 1) xs

counted_numbered : (n m place : ℕ) (xs : List Report) → m ≡ n + 1 → Counted n (numbered m place xs)
unfolding Counted
counted_numbered n m place [] is = tt
counted_numbered n m place (x ∷ xs) is = (is, counted_numbered (n + 1) (m + 1) place xs (ap (λ k. k + 1) is))

counted_append : (n m : ℕ) (xs ys : List Event) → Counted n xs → m ≡ n + length xs → Counted m ys → Counted n (xs ++ ys)
unfolding Counted
counted_append n m [] ys h is k = subst (λ i. Counted i ys) (let same : m ≡ n = omega (arith, is) in same) k
counted_append n m (x ∷ xs) ys h is k = (h.0, counted_append (n + 1) m xs ys h.1 (omega (arith, is)) k)

counted_rises : (n : ℕ) (xs : List Event) → Counted n xs → Rising n xs
unfolding Counted Rising
counted_rises n [] h = tt
counted_rises n (x ∷ xs) h = let is = h.0 in (omega (arith, is), subst (λ m. Rising m xs) (sym is) (counted_rises (n + 1) xs h.1))

none_counted : Counted 0 []
unfolding Counted
none_counted = tt

events_counted : {A : Type 0} (s : Settings) (es : List (Entry A)) (w : List ℕ) → Counted 0 (events s es w)
events_counted s [] w = none_counted
events_counted s (e ∷ es) w =
    counted_append 0 (length (events s es w)) (events s es w) (numbered (length (events s es w) + 1) (length es) (reports_of s es e w e.request)) (events_counted s es w) (omega arith)
    (counted_numbered (length (events s es w)) (length (events s es w) + 1) (length es) (reports_of s es e w e.request) refl)

-- ACKNOWLEDGEMENTS

-- one that is accepted goes further than the one before, and as far as a number that was made
ack_accepted : (A : Type 0) (made before upto : ℕ) → accepts {A = A} (acknowledged made before upto) ≡ true → (upto ≤ made) × (before < upto)
ack_accepted A made before upto h = at (nat_lt made upto) refl (nat_le upto before) refl h
  where
    at : (b : Bool) → nat_lt made upto ≡ b → (c : Bool) → nat_le upto before ≡ c → accepts {A = A} (cond b AckAhead (cond c AckStale (Answered Success))) ≡ true → (upto ≤ made) × (before < upto)
    at true ahead c stale g = absurd cc
    at false ahead true stale g = absurd cc
    at false ahead false stale g = (grind (arith, nat_tests, ahead), grind (arith, nat_tests, stale))

-- what is acknowledged was made
made_step : {A : Type 0} (s : Settings) (es : List (Entry A)) (e : Entry A) (w : List ℕ) (more : List Event) (r : Request A) → accepts (decided s es e r) ≡ true → acked es w ≤ length (events s es w)
    → acked_after w e.ae (acked es w) r ≤ length (events s es w ++ more)
made_step {A} s es e w more (Ack upto) h before = at (bytes_eq e.ae w) refl
  where
    longer : length (events s es w ++ more) ≡ length (events s es w) + length more
    longer = length-append (events s es w) more

    at : (b : Bool) → bytes_eq e.ae w ≡ b → cond b upto (acked es w) ≤ length (events s es w ++ more)
    at true same =
        let made : upto ≤ length (events s es w) = subst (λ v. upto ≤ length (events s es v)) (same_text e.ae w same) (ack_accepted A (length (events s es e.ae)) (acked es e.ae) upto h).0 in
        omega (arith, made, longer)
    at false other = omega (arith, before, longer)
made_step s es e w more r h before = let longer = length-append (events s es w) more in omega (arith, before, longer)

pub acked_made : {A : Type 0} (s : Settings) (es : List (Entry A)) (w : List ℕ) → legal s es ≡ true → acked es w ≤ length (events s es w)
acked_made s [] w h = omega arith
acked_made s (e ∷ es) w h =
    made_step s es e w (numbered (length (events s es w) + 1) (length es) (reports_of s es e w e.request)) e.request (legal_head s e es h) (acked_made s es w (legal_tail s e es h))

-- ONE ENTRY

-- what is later than n and current shows, over what was received, what all events show
Shows : ℕ → List Event → List Event → List ℕ → Type 0
Shows n xs got u = option_or (view (later n (current xs)) u) (view got u) ≡ view xs u

shows_later : (n : ℕ) (xs got : List Event) (u : List ℕ) → Rising 0 xs → Shows n xs got u → option_or (view (later n xs) u) (view got u) ≡ view xs u
unfolding Shows
shows_later n xs got u rises h = ap (λ o. option_or o (view got u)) (sym (view_current n 0 u xs rises)) ∙ h

later_shows : (n : ℕ) (xs got : List Event) (u : List ℕ) → Rising 0 xs → option_or (view (later n xs) u) (view got u) ≡ view xs u → Shows n xs got u
unfolding Shows
later_shows n xs got u rises h = ap (λ o. option_or o (view got u)) (view_current n 0 u xs rises) ∙ h

-- more events, of which none is acknowledged
more_events : (n : ℕ) (xs ys got : List Event) (u : List ℕ) → n ≤ length xs → Counted 0 xs → Counted (length xs) ys → Rising 0 (xs ++ ys) → Shows n xs got u → Shows n (xs ++ ys) got u
more_events n xs ys got u low first next rises h =
    later_shows n (xs ++ ys) got u rises
    (ap (λ l. option_or (view l u) (view got u)) (filter-append (λ (x : Event). nat_lt n x.number) xs ys ∙ ap (λ l. later n xs ++ l) (all_later n (length xs) ys low (counted_rises (length xs) ys next)))
    ∙ ap (λ o. option_or o (view got u)) (view-append (later n xs) ys u)
    ∙ or_assoc (view ys u) (view (later n xs) u) (view got u)
    ∙ ap (λ o. option_or (view ys u) o) (shows_later n xs got u (counted_rises 0 xs first) h)
    ∙ sym (view-append xs ys u))

-- an acknowledgement: what was pending up to its number is received
more_received : (n m : ℕ) (xs got : List Event) (u : List ℕ) → n ≤ m → Rising 0 xs → Shows n xs got u → Shows m xs (got ++ up_to m (later n (current xs))) u
unfolding Shows
more_received n m xs got u low rises h =
    ap (λ o. option_or (view (later m (current xs)) u) o) (view-append got (up_to m (later n (current xs))) u)
    ∙ sym (or_assoc (view (later m (current xs)) u) (view (up_to m (later n (current xs))) u) (view got u))
    ∙ ap (λ o. option_or o (view got u)) (view_split n m 0 u (current xs) low (rising_current 0 xs rises))
    ∙ h

step : {A : Type 0} (s : Settings) (es : List (Entry A)) (e : Entry A) (w u : List ℕ) (ys : List Event) (r : Request A) → accepts (decided s es e r) ≡ true → acked es w ≤ length (events s es w)
    → Counted (length (events s es w)) ys → Rising 0 (events s es w ++ ys) → Shows (acked es w) (events s es w) (received s es w) u
    → Shows (acked_after w e.ae (acked es w) r) (events s es w ++ ys) (received_after s es w e.ae (received s es w) r) u
step {A} s es e w u ys (Ack upto) h low next rises before = at (bytes_eq e.ae w) refl
  where
    at : (b : Bool) → bytes_eq e.ae w ≡ b → Shows (cond b upto (acked es w)) (events s es w ++ ys) (cond b (received s es w ++ up_to upto (pending s es w)) (received s es w)) u
    at true same =
        let made : upto ≤ length (events s es w) = subst (λ v. upto ≤ length (events s es v)) (same_text e.ae w same) (ack_accepted A (length (events s es e.ae)) (acked es e.ae) upto h).0 in
        let further : acked es w < upto = subst (λ v. acked es v < upto) (same_text e.ae w same) (ack_accepted A (length (events s es e.ae)) (acked es e.ae) upto h).1 in
        more_events upto (events s es w) ys (received s es w ++ up_to upto (pending s es w)) u made (events_counted s es w) next rises
        (more_received (acked es w) upto (events s es w) (received s es w) u (omega (arith, further)) (counted_rises 0 (events s es w) (events_counted s es w)) before)
    at false other = more_events (acked es w) (events s es w) ys (received s es w) u low (events_counted s es w) next rises before
step s es e w u ys r h low next rises before = more_events (acked es w) (events s es w) ys (received s es w) u low (events_counted s es w) next rises before

-- ALL ENTRIES

none_shows : (u : List ℕ) → Shows 0 [] [] u
unfolding Shows
none_shows u = refl

shown : {A : Type 0} (s : Settings) (es : List (Entry A)) (w u : List ℕ) → legal s es ≡ true → Shows (acked es w) (events s es w) (received s es w) u
shown s [] w u h = none_shows u
shown s (e ∷ es) w u h =
    step s es e w u (numbered (length (events s es w) + 1) (length es) (reports_of s es e w e.request)) e.request (legal_head s e es h) (acked_made s es w (legal_tail s e es h))
    (counted_numbered (length (events s es w)) (length (events s es w) + 1) (length es) (reports_of s es e w e.request) refl)
    (counted_rises 0 (events s (e ∷ es) w) (events_counted s (e ∷ es) w)) (shown s es w u (legal_tail s e es h))

-- what w has received and what is pending show what all its events show
pub received_shows : {A : Type 0} (s : Settings) (es : List (Entry A)) (w u : List ℕ) → legal s es ≡ true → view (received s es w ++ pending s es w) u ≡ view (events s es w) u
unfolding Shows
received_shows s es w u h = view-append (received s es w) (pending s es w) u ∙ shown s es w u h
