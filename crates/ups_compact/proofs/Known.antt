-- The last of events whose numbers rise are told where the others are acknowledged.
use Rattle.std.proofs.Common.{◌≡◌, ℕ, ◌+◌, List, [], ◌∷◌, ◌++◌, length, refl, sym, ap, subst, arith}
use Rattle.ups_life.specs.declared.entry.Entry.{Entry}
use Rattle.ups_life.specs.declared.event.Event.{Event}
use Rattle.ups_life.specs.declared.event.Report.{Report}
use Rattle.ups_life.specs.Settings.{Settings}
use Rattle.ups_life.specs.Events.{reports_of, numbered, events}
use Rattle.ups_life.proofs.Current.{Rising}

-- WHAT IS BEHIND A NUMBER

-- THE NUMBER OF THE LAST ONE

-- EVENTS ARE NUMBERED FROM 1

-- each number is one above the one before it, the first one above n
unfoldable pub Counted : ℕ → List Event → Type 0
Counted n [] = Unit {0}
Counted n (x ∷ xs) = (x.number ≡ n + 1) × Counted (n + 1) xs

counted_numbered : (n m place : ℕ) (xs : List Report) → m ≡ n + 1 → Counted n (numbered m place xs)
unfolding Counted
counted_numbered n m place [] is = tt
counted_numbered n m place (x ∷ xs) is = (is, counted_numbered (n + 1) (m + 1) place xs (ap (λ k. k + 1) is))

counted_append : (n m : ℕ) (xs ys : List Event) → Counted n xs → m ≡ n + length xs → Counted m ys → Counted n (xs ++ ys)
unfolding Counted
counted_append n m [] ys h is k = subst (λ i. Counted i ys) (let same : m ≡ n = omega (arith, is) in same) k
counted_append n m (x ∷ xs) ys h is k = (h.0, counted_append (n + 1) m xs ys h.1 (omega (arith, is)) k)

none_counted : Counted 0 []
unfolding Counted
none_counted = tt

pub events_counted : {A : Type 0} (s : Settings) (es : List (Entry A)) (w : List ℕ) → Counted 0 (events s es w)
events_counted s [] w = none_counted
events_counted s (e ∷ es) w =
    counted_append 0 (length (events s es w)) (events s es w) (numbered (length (events s es w) + 1) (length es) (reports_of s es e w e.request)) (events_counted s es w) (omega arith)
    (counted_numbered (length (events s es w)) (length (events s es w) + 1) (length es) (reports_of s es e w e.request) refl)

pub counted_rises : (n : ℕ) (xs : List Event) → Counted n xs → Rising n xs
unfolding Counted Rising
counted_rises n [] h = tt
counted_rises n (x ∷ xs) h = let is = h.0 in (omega (arith, is), subst (λ m. Rising m xs) (sym is) (counted_rises (n + 1) xs h.1))
