-- What becomes of the events that are pending where one more is made, and where some are acknowledged: what a queue does.
use Rattle.std.proofs.Common.{◌≡◌, ℕ, ◌<◌, ◌≤◌, Bool, true, false, cond, not, List, [], ◌∷◌, ◌++◌, filter, refl, sym, ap, ◌∙◌, arith}
use Rattle.std.specs.Prelude.{nat_lt}
use Rattle.std.proofs.lemmas.Bool.Decides.{nat_tests}
use Rattle.std.proofs.lemmas.List.Elements.{filter-append}
use Rattle.ups_life.specs.declared.event.Event.{Event}
use Rattle.ups_life.specs.Events.{current}
use Rattle.ups_life.proofs.Current.{supersedes, current-push, later}

first : (p : Event → Bool) (x : Event) (xs : List Event) (b : Bool) → p x ≡ b → filter p (x ∷ xs) ≡ cond b (x ∷ filter p xs) (filter p xs)
first p x xs b h = ap (λ c. cond c (x ∷ filter p xs) (filter p xs)) h

-- two tests, in either order
filter_swap : (p q : Event → Bool) (xs : List Event) → filter p (filter q xs) ≡ filter q (filter p xs)
filter_swap p q [] = refl
filter_swap p q (x ∷ xs) = at (p x) refl (q x) refl (filter_swap p q xs)
  where
    at : (b : Bool) → p x ≡ b → (c : Bool) → q x ≡ c → filter p (filter q xs) ≡ filter q (filter p xs) → filter p (filter q (x ∷ xs)) ≡ filter q (filter p (x ∷ xs))
    at true h true k ih =
        ap (filter p) (first q x xs true k) ∙ first p x (filter q xs) true h ∙ ap (λ l. x ∷ l) ih
        ∙ sym (ap (filter q) (first p x xs true h) ∙ first q x (filter p xs) true k)
    at true h false k ih = ap (filter p) (first q x xs false k) ∙ ih ∙ sym (ap (filter q) (first p x xs true h) ∙ first q x (filter p xs) false k)
    at false h true k ih = ap (filter p) (first q x xs true k) ∙ first p x (filter q xs) false h ∙ ih ∙ sym (ap (filter q) (first p x xs false h))
    at false h false k ih = ap (filter p) (first q x xs false k) ∙ ih ∙ sym (ap (filter q) (first p x xs false h))

is_later : (n m : ℕ) → n < m → nat_lt n m ≡ true
is_later n m h = grind (arith, nat_tests)

-- one more event: a State Report takes out the one of its step, and the event goes last
pub pending_push : (n : ℕ) (xs : List Event) (x : Event) → n < x.number → later n (current (xs ++ x ∷ [])) ≡ filter (λ (y : Event). not (supersedes x y)) (later n (current xs)) ++ x ∷ []
pending_push n xs x above =
    let open_tests = filter_swap (λ (y : Event). nat_lt n y.number) (λ (y : Event). not (supersedes x y)) (current xs) in
    ap (later n) (current-push xs x)
    ∙ filter-append (λ (y : Event). nat_lt n y.number) (filter (λ (y : Event). not (supersedes x y)) (current xs)) (x ∷ [])
    ∙ ap (λ l. l ++ later n (x ∷ [])) open_tests
    ∙ ap (λ b. filter (λ (y : Event). not (supersedes x y)) (later n (current xs)) ++ cond b (x ∷ []) []) (is_later n x.number above)

-- an acknowledgement: those up to its number go
pub pending_ack : (n m : ℕ) (xs : List Event) → n ≤ m → later m (later n xs) ≡ later m xs
pending_ack n m [] low = refl
pending_ack n m (x ∷ xs) low = at (nat_lt m x.number) refl (nat_lt n x.number) refl (pending_ack n m xs low)
  where
    above : Event → Bool
    above y = nat_lt n y.number

    far : Event → Bool
    far y = nat_lt m y.number

    at : (b : Bool) → nat_lt m x.number ≡ b → (c : Bool) → nat_lt n x.number ≡ c → later m (later n xs) ≡ later m xs → later m (later n (x ∷ xs)) ≡ later m (x ∷ xs)
    at true h false k ih = absurd (grind (arith, nat_tests, h, k, low))
    at true h true k ih = ap (later m) (first above x xs true k) ∙ first far x (later n xs) true h ∙ ap (λ l. x ∷ l) ih ∙ sym (first far x xs true h)
    at false h true k ih = ap (later m) (first above x xs true k) ∙ first far x (later n xs) false h ∙ ih ∙ sym (first far x xs false h)
    at false h false k ih = ap (later m) (first above x xs false k) ∙ ih ∙ sym (first far x xs false h)
