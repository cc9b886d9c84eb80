-- Events are numbered from 1, in their order.
use Rattle.std.proofs.Common.{◌≡◌, ◌⊎◌, inl, inr, ℕ, ◌+◌, ◌<◌, ◌≤◌, Bool, true, false, cond, List, [], ◌∷◌, ◌++◌, length, filter, not, ◌&&◌, refl, sym, ap, subst, ◌∙◌, arith, append-nil, append_assoc}
use Rattle.std.specs.Prelude.{nat_lt}
use Rattle.std.specs.List.{list_any, AllPairs, Contains}
use Rattle.std.proofs.lemmas.Bool.Decides.{nat_tests}
use Rattle.std.proofs.lemmas.List.Elements.{Contains-push_cases}
use Rattle.std.proofs.lemmas.List.Kept.{AllPairs-cons, AllPairs-filter}
use Rattle.ups_life.specs.declared.entry.Entry.{Entry}
use Rattle.ups_life.specs.declared.event.Event.{Event}
use Rattle.ups_life.specs.declared.event.Report.{Report}
use Rattle.ups_life.specs.Settings.{Settings}
use Rattle.ups_life.specs.Events.{reports_of, numbered, events, is_state_report, is_report_of, acked, current, pending}
use Rattle.ups_life.proofs.Current.{Rising, rising_current, current-push, supersedes}
use Rattle.ups_service.proofs.Members.{none_in_nil, here, there, here_or_there, was_there, passes, of_each}

-- WHAT RISES

-- each number is above the one that all rise from
pub above : (n : ℕ) (xs : List Event) (x : Event) → Rising n xs → Contains xs x → n < x.number
unfolding Rising
above n [] x h in' = absurd (none_in_nil x in')
above n (y ∷ ys) x h in' = at h.0 (here_or_there y ys x in') (λ g. above y.number ys x h.1 g)
  where
    at : n < y.number → (y ≡ x) ⊎ Contains ys x → (Contains ys x → y.number < x.number) → n < x.number
    at low (inl same) later = subst (λ (z : Event). n < z.number) same low
    at low (inr g) later = let high = later g in omega (arith, low, high)

-- two with one number are the same
pub one_number : (n : ℕ) (xs : List Event) (x y : Event) → Rising n xs → Contains xs x → Contains xs y → x.number ≡ y.number → x ≡ y
unfolding Rising
one_number n [] x y h in_x in_y same = absurd (none_in_nil x in_x)
one_number n (z ∷ zs) x y h in_x in_y same =
    at (here_or_there z zs x in_x) (here_or_there z zs y in_y) (λ v g. above z.number zs v h.1 g) (λ g k. one_number z.number zs x y h.1 g k same)
  where
    at : (z ≡ x) ⊎ Contains zs x → (z ≡ y) ⊎ Contains zs y → ((v : Event) → Contains zs v → z.number < v.number) → (Contains zs x → Contains zs y → x ≡ y) → x ≡ y
    at (inl first) (inl too) later rest = sym first ∙ too
    at (inl first) (inr k) later rest = let high = later y k in let is = ap (λ (v : Event). v.number) first in absurd (omega (arith, high, is, same))
    at (inr g) (inl first) later rest = let high = later x g in let is = ap (λ (v : Event). v.number) first in absurd (omega (arith, high, is, same))
    at (inr g) (inr k) later rest = rest g k

-- of any two the later one has the greater number
pub rise : (n : ℕ) (xs : List Event) → Rising n xs → AllPairs (λ (x y : Event). x.number < y.number) xs
unfolding Rising
rise n [] h = λ i j d low in'. absurd (omega (arith, low, in'))
rise n (x ∷ xs) h = AllPairs-cons (λ (y z : Event). y.number < z.number) x xs (of_each (λ (y : Event). x.number < y.number) xs (λ y in'. above x.number xs y h.1 in')) (rise x.number xs h.1)

-- THE EVENTS

-- each number is one above the one before it, the first one above n
Counted : ℕ → List Event → Type 0
Counted n [] = Unit {0}
Counted n (x ∷ xs) = (x.number ≡ n + 1) × Counted (n + 1) xs

counted_numbered : (n m place : ℕ) (xs : List Report) → m ≡ n + 1 → Counted n (numbered m place xs)
unfolding Counted
counted_numbered n m place [] is = tt
counted_numbered n m place (x ∷ xs) is = (is, counted_numbered (n + 1) (m + 1) place xs (ap (λ k. k + 1) is))

counted_append : (n m : ℕ) (xs ys : List Event) → Counted n xs → m ≡ n + length xs → Counted m ys → Counted n (xs ++ ys)
unfolding Counted
counted_append n m [] ys h is k = subst (λ i. Counted i ys) (let same : m ≡ n = omega (arith, is) in same) k
counted_append n m (x ∷ xs) ys h is k = (h.0, counted_append (n + 1) m xs ys h.1 (omega (arith, is)) k)

counted_rises : (n : ℕ) (xs : List Event) → Counted n xs → Rising n xs
unfolding Counted Rising
counted_rises n [] h = tt
counted_rises n (x ∷ xs) h = let is = h.0 in (omega (arith, is), subst (λ m. Rising m xs) (sym is) (counted_rises (n + 1) xs h.1))

none_counted : Counted 0 []
unfolding Counted
none_counted = tt

events_counted : {A : Type 0} (s : Settings) (es : List (Entry A)) (w : List ℕ) → Counted 0 (events s es w)
events_counted s [] w = none_counted
events_counted s (e ∷ es) w =
    counted_append 0 (length (events s es w)) (events s es w) (numbered (length (events s es w) + 1) (length es) (reports_of s es e w e.request)) (events_counted s es w) (omega arith)
    (counted_numbered (length (events s es w)) (length (events s es w) + 1) (length es) (reports_of s es e w e.request) refl)

pub events_rise : {A : Type 0} (s : Settings) (es : List (Entry A)) (w : List ℕ) → Rising 0 (events s es w)
events_rise s es w = counted_rises 0 (events s es w) (events_counted s es w)

counted_up_to : (n : ℕ) (xs : List Event) (x : Event) → Counted n xs → Contains xs x → x.number ≤ n + length xs
unfolding Counted
counted_up_to n [] x h in' = absurd (none_in_nil x in')
counted_up_to n (y ∷ ys) x h in' = at h.0 (here_or_there y ys x in') (λ g. counted_up_to (n + 1) ys x h.1 g)
  where
    at : y.number ≡ n + 1 → (y ≡ x) ⊎ Contains ys x → (Contains ys x → x.number ≤ (n + 1) + length ys) → x.number ≤ n + length (y ∷ ys)
    at is (inl same) rest = let one = ap (λ (z : Event). z.number) same in omega (arith, is, one)
    at is (inr g) rest = let low = rest g in omega (arith, low)

-- as many are made as the last number says
pub up_to_made : {A : Type 0} (s : Settings) (es : List (Entry A)) (w : List ℕ) (x : Event) → Contains (events s es w) x → x.number ≤ length (events s es w)
up_to_made s es w x in' = let low = counted_up_to 0 (events s es w) x (events_counted s es w) in' in omega (arith, low)

-- the new events are numbered above the old ones
pub numbered_above : (n place : ℕ) (xs : List Report) (x : Event) → Contains (numbered (n + 1) place xs) x → n < x.number
numbered_above n place xs x in' = above n (numbered (n + 1) place xs) x (counted_rises n (numbered (n + 1) place xs) (counted_numbered n (n + 1) place xs refl)) in'

-- WHAT IS PENDING

-- what is current is one of the events
pub is_event : (xs : List Event) (x : Event) → Contains (current xs) x → Contains xs x
is_event [] x in' = in'
is_event (y ∷ ys) x in' = at (is_state_report y.kind && list_any (is_report_of y.step) ys) in' (λ g. is_event ys x g)
  where
    at : (b : Bool) → Contains (cond b (current ys) (y ∷ current ys)) x → (Contains (current ys) x → Contains ys x) → Contains (y ∷ ys) x
    at true g rest = there y ys x (rest g)
    at false g rest = first (here_or_there y (current ys) x g)
      where
        first : (y ≡ x) ⊎ Contains (current ys) x → Contains (y ∷ ys) x
        first (inl same) = subst (Contains (y ∷ ys)) same (here y ys)
        first (inr k) = there y ys x (rest k)

-- what is current after more events was current before, or is one of those
pub current_before : (xs ys : List Event) (x : Event) → Contains (current (xs ++ ys)) x → Contains (current xs) x ⊎ Contains ys x
current_before xs [] x in' = inl (subst (λ l. Contains (current l) x) (append-nil xs) in')
current_before xs (y ∷ ys) x in' = at (current_before (xs ++ y ∷ []) ys x (subst (λ l. Contains (current l) x) (sym (append_assoc xs (y ∷ []) ys)) in'))
  where
    one : Contains (filter (λ (z : Event). not (supersedes y z)) (current xs)) x ⊎ (y ≡ x) → Contains (current xs) x ⊎ Contains (y ∷ ys) x
    one (inl g) = inl (was_there (λ (z : Event). not (supersedes y z)) (current xs) x g)
    one (inr same) = inr (subst (Contains (y ∷ ys)) same (here y ys))

    at : Contains (current (xs ++ y ∷ [])) x ⊎ Contains ys x → Contains (current xs) x ⊎ Contains (y ∷ ys) x
    at (inl g) = one (Contains-push_cases (filter (λ (z : Event). not (supersedes y z)) (current xs)) y x (subst (λ l. Contains l x) (current-push xs y) g))
    at (inr g) = inr (there y ys x g)

-- what is pending is one of the events, and not acknowledged
pub is_own : {A : Type 0} (s : Settings) (es : List (Entry A)) (w : List ℕ) (x : Event) → Contains (pending s es w) x → Contains (events s es w) x
is_own s es w x in' = is_event (events s es w) x (was_there (λ (y : Event). nat_lt (acked es w) y.number) (current (events s es w)) x in')

pub not_acked : {A : Type 0} (s : Settings) (es : List (Entry A)) (w : List ℕ) (x : Event) → Contains (pending s es w) x → acked es w < x.number
not_acked s es w x in' = let is = passes (λ (y : Event). nat_lt (acked es w) y.number) (current (events s es w)) x in' in grind (arith, nat_tests, is)

pub pending_rise : {A : Type 0} (s : Settings) (es : List (Entry A)) (w : List ℕ) → AllPairs (λ (x y : Event). x.number < y.number) (pending s es w)
pending_rise s es w = AllPairs-filter (λ (x y : Event). x.number < y.number) (λ (y : Event). nat_lt (acked es w) y.number) (current (events s es w)) (rise 0 (current (events s es w)) (rising_current 0 (events s es w) (events_rise s es w)))

-- numbers that rise never fall
pub never_fall : (xs : List Event) → AllPairs (λ (x y : Event). x.number < y.number) xs → AllPairs (λ (x y : Event). x.number ≤ y.number) xs
never_fall xs h i j d low in' = let less = h i j d low in' in omega (arith, less)
