-- What is pending of events: each State Report that no later one of its step supersedes, and all that is no State Report.
use Rattle.std.proofs.Common.{◌≡◌, ℕ, ◌<◌, ◌≤◌, Bool, true, false, cond, not, ◌&&◌, ◌||◌, List, [], ◌∷◌, ◌++◌, length, filter, Option, Some, None, refl, sym, ap, ◌∙◌, arith}
use Rattle.std.specs.Prelude.{is_some, nat_lt, nat_le}
use Rattle.std.specs.Option.{option_or}
use Rattle.std.specs.List.{list_any}
use Rattle.std.specs.Str.{bytes_eq}
use Rattle.std.proofs.lemmas.Bool.Decides.{nat_tests}
use Rattle.std.proofs.lemmas.List.Folds.{list_any-append}
use Rattle.ups_life.specs.declared.entry.Entry.{Entry}
use Rattle.ups_life.specs.declared.event.Event.{Event}
use Rattle.ups_life.specs.Settings.{Settings}
use Rattle.ups_life.specs.Events.{events, acked, is_state_report, is_report_of, current, pending, up_to, shows, view}
use Rattle.ups_life.proofs.Texts.{same_text}
use Rattle.ups_life.proofs.Accepted.{neither}
use Rattle.ups_life.proofs.Viewing.{or_assoc, or_none}

-- AT MOST ONE STATE REPORT OF A STEP

-- the event x, where a State Report of its step comes later or not, before what is current of those
abbrev with : Bool → Event → List Event → List Event
with superseded x xs = cond superseded xs (x ∷ xs)

none_left : (u : List ℕ) (xs : List Event) → list_any (is_report_of u) xs ≡ false → filter (is_report_of u) (current xs) ≡ []
none_left u [] h = refl
none_left u (x ∷ xs) h = let none = neither (is_report_of u x) (list_any (is_report_of u) xs) h in at (is_state_report x.kind && list_any (is_report_of x.step) xs) none.0 (none_left u xs none.1)
  where
    at : (b : Bool) → is_report_of u x ≡ false → filter (is_report_of u) (current xs) ≡ [] → filter (is_report_of u) (with b x (current xs)) ≡ []
    at true here rest = rest
    at false here rest = ap (λ c. cond c (x ∷ filter (is_report_of u) (current xs)) (filter (is_report_of u) (current xs))) here ∙ rest

one_left : (u : List ℕ) (xs : List Event) → length (filter (is_report_of u) (current xs)) ≤ 1
one_left u [] = omega arith
one_left u (x ∷ xs) = at (is_state_report x.kind) refl (list_any (is_report_of x.step) xs) refl (bytes_eq x.step u) refl (one_left u xs)
  where
    put : (b : Bool) → is_report_of u x ≡ b → (b ≡ true → filter (is_report_of u) (current xs) ≡ []) → length (filter (is_report_of u) (current xs)) ≤ 1 → length (filter (is_report_of u) (x ∷ current xs)) ≤ 1
    put true is none rest = rw (is, none refl) (omega arith)
    put false is none rest = rw (is) rest

    at : (b : Bool) → is_state_report x.kind ≡ b → (c : Bool) → list_any (is_report_of x.step) xs ≡ c → (d : Bool) → bytes_eq x.step u ≡ d → length (filter (is_report_of u) (current xs)) ≤ 1
        → length (filter (is_report_of u) (with (b && c) x (current xs))) ≤ 1
    at true kind true any d same rest = rest
    at true kind false any true same rest = put true (ap (λ t. t && is_state_report x.kind) same ∙ kind) (λ e. none_left u xs (ap (λ v. list_any (is_report_of v) xs) (sym (same_text x.step u same)) ∙ any)) rest
    at true kind false any false same rest = put false (ap (λ t. t && is_state_report x.kind) same) (λ e. absurd cc) rest
    at false kind c any true same rest = put false (ap (λ t. t && is_state_report x.kind) same ∙ kind) (λ e. absurd cc) rest
    at false kind c any false same rest = put false (ap (λ t. t && is_state_report x.kind) same) (λ e. absurd cc) rest

-- a test leaves no more of what another one leaves
fewer : (p q : Event → Bool) (xs : List Event) → length (filter p (filter q xs)) ≤ length (filter p xs)
fewer p q [] = omega arith
fewer p q (x ∷ xs) = at (q x) (p x) refl (fewer p q xs)
  where
    at : (b c : Bool) → p x ≡ c → length (filter p (filter q xs)) ≤ length (filter p xs) → length (filter p (cond b (x ∷ filter q xs) (filter q xs))) ≤ length (cond c (x ∷ filter p xs) (filter p xs))
    at true true is rest = rw (is) (omega (arith, rest))
    at true false is rest = rw (is) rest
    at false true is rest = omega (arith, rest)
    at false false is rest = rest

-- of each step at most one State Report is pending
pub one_pending : {A : Type 0} (s : Settings) (es : List (Entry A)) (w u : List ℕ) → length (filter (is_report_of u) (pending s es w)) ≤ 1
one_pending s es w u =
    let first = fewer (is_report_of u) (λ (x : Event). nat_lt (acked es w) x.number) (current (events s es w)) in
    let second = one_left u (events s es w) in
    omega (arith, first, second)

-- ONE MORE EVENT

-- both are State Reports of one step
abbrev pub supersedes : Event → Event → Bool
supersedes x y = is_state_report y.kind && is_report_of y.step x

alone_is_current : (b : Bool) (x : Event) → with (b && false) x [] ≡ x ∷ []
alone_is_current true x = refl
alone_is_current false x = refl

-- a State Report takes out the one of its step that was current before it
pub current-push : (xs : List Event) (x : Event) → current (xs ++ x ∷ []) ≡ filter (λ (y : Event). not (supersedes x y)) (current xs) ++ x ∷ []
current-push [] x = alone_is_current (is_state_report x.kind) x
current-push (y ∷ ys) x =
    ap (λ b. with (is_state_report y.kind && b) y (current (ys ++ x ∷ []))) (list_any-append (is_report_of y.step) ys (x ∷ []))
    ∙ ap (λ l. with (is_state_report y.kind && (list_any (is_report_of y.step) ys || (is_report_of y.step x || false))) y l) (current-push ys x)
    ∙ at (is_state_report y.kind) (list_any (is_report_of y.step) ys) (is_report_of y.step x)
    ∙ ap (λ l. l ++ x ∷ []) (sym (first (is_state_report y.kind && list_any (is_report_of y.step) ys)))
  where
    rest : List Event
    rest = filter (λ (z : Event). not (supersedes x z)) (current ys)

    first : (b : Bool) → filter (λ (z : Event). not (supersedes x z)) (with b y (current ys)) ≡ cond b rest (cond (not (supersedes x y)) (y ∷ rest) rest)
    first true = refl
    first false = refl

    at : (kind any this : Bool) → with (kind && (any || (this || false))) y (rest ++ x ∷ []) ≡ cond (kind && any) rest (cond (not (kind && this)) (y ∷ rest) rest) ++ x ∷ []
    at true true this = refl
    at true false true = refl
    at true false false = refl
    at false any this = refl

-- NUMBERS THAT RISE

-- each number is above n, and above the one before it
unfoldable pub Rising : ℕ → List Event → Type 0
Rising n [] = Unit {0}
Rising n (x ∷ xs) = (n < x.number) × Rising x.number xs

pub rising_above : (m n : ℕ) (xs : List Event) → m ≤ n → Rising n xs → Rising m xs
unfolding Rising
rising_above m n [] low h = tt
rising_above m n (x ∷ xs) low h = let above = h.0 in (omega (arith, low, above), h.1)

pub rising_current : (n : ℕ) (xs : List Event) → Rising n xs → Rising n (current xs)
unfolding Rising
rising_current n [] h = tt
rising_current n (x ∷ xs) h = at (is_state_report x.kind && list_any (is_report_of x.step) xs) h.0 (rising_current x.number xs h.1)
  where
    at : (b : Bool) → n < x.number → Rising x.number (current xs) → Rising n (with b x (current xs))
    at true low rest = rising_above n x.number (current xs) (omega (arith, low)) rest
    at false low rest = (low, rest)

-- those with a greater number than n
abbrev pub later : ℕ → List Event → List Event
later n xs = filter (λ (x : Event). nat_lt n x.number) xs

is_later : (n m : ℕ) → n < m → nat_lt n m ≡ true
is_later n m h = grind (arith, nat_tests)

pub all_later : (n m : ℕ) (xs : List Event) → n ≤ m → Rising m xs → later n xs ≡ xs
unfolding Rising
all_later n m [] low h = refl
all_later n m (x ∷ xs) low h =
    let above = h.0 in
    let here : n < x.number = omega (arith, low, above) in
    let next : n ≤ x.number = omega (arith, here) in
    ap (λ b. cond b (x ∷ later n xs) (later n xs)) (is_later n x.number here) ∙ ap (λ l. x ∷ l) (all_later n x.number xs next h.1)

is_over : (n m : ℕ) → n < m → nat_le m n ≡ false
is_over n m h = grind (arith, nat_tests)

none_up_to : (n m : ℕ) (xs : List Event) → n ≤ m → Rising m xs → up_to n xs ≡ []
unfolding Rising
none_up_to n m [] low h = refl
none_up_to n m (x ∷ xs) low h =
    let above = h.0 in
    let here : n < x.number = omega (arith, low, above) in
    let next : n ≤ x.number = omega (arith, here) in
    ap (λ b. cond b (x ∷ up_to n xs) (up_to n xs)) (is_over n x.number here) ∙ none_up_to n x.number xs next h.1

-- THE VIEW OF WHAT IS CURRENT

some_or : {X : Type 0} (p q : Option X) → is_some p ≡ true → option_or p q ≡ p
some_or (Some x) q h = refl
some_or None q h = absurd cc

some_first : {X : Type 0} (p q : Option X) → is_some p ≡ true → is_some (option_or p q) ≡ true
some_first (Some x) q h = refl
some_first None q h = absurd cc

some_second : {X : Type 0} (p q : Option X) → is_some q ≡ true → is_some (option_or p q) ≡ true
some_second (Some x) q h = refl
some_second None q h = h

shown_by : (u : List ℕ) (x : Event) → is_report_of u x ≡ true → is_some (shows u x) ≡ true
shown_by u x h = rw h

-- where there is a State Report, something is seen
seen : (u : List ℕ) (xs : List Event) → list_any (is_report_of u) xs ≡ true → is_some (view xs u) ≡ true
seen u [] h = absurd cc
seen u (x ∷ xs) h = at (is_report_of u x) refl (λ g. seen u xs g) h
  where
    at : (b : Bool) → is_report_of u x ≡ b → (list_any (is_report_of u) xs ≡ true → is_some (view xs u) ≡ true) → (b || list_any (is_report_of u) xs) ≡ true → is_some (option_or (view xs u) (shows u x)) ≡ true
    at true is later g = some_second (view xs u) (shows u x) (shown_by u x is)
    at false is later g = some_first (view xs u) (shows u x) (later g)

-- a State Report that is superseded shows nothing that isn't shown later
hidden : (u : List ℕ) (x : Event) (xs : List Event) → list_any (is_report_of x.step) xs ≡ true → option_or (view xs u) (shows u x) ≡ view xs u
hidden u x xs h = at (is_report_of u x) refl
  where
    report_here : (b c : Bool) → (b && c) ≡ true → b ≡ true
    report_here true c g = refl
    report_here false c g = absurd cc

    at : (b : Bool) → is_report_of u x ≡ b → option_or (view xs u) (cond b (Some (record { state = x.state; readiness = x.readiness })) None) ≡ view xs u
    at true is = some_or (view xs u) _ (seen u xs (ap (λ v. list_any (is_report_of v) xs) (sym (same_text x.step u (report_here (bytes_eq x.step u) (is_state_report x.kind) is))) ∙ h))
    at false is = or_none (view xs u)

second : (b c : Bool) → (b && c) ≡ true → c ≡ true
second true c h = h
second false c h = absurd cc

-- what is later and current shows what is later
pub view_current : (n m : ℕ) (u : List ℕ) (xs : List Event) → Rising m xs → view (later n (current xs)) u ≡ view (later n xs) u
unfolding Rising
view_current n m u [] h = refl
view_current n m u (x ∷ xs) h = at (is_state_report x.kind && list_any (is_report_of x.step) xs) refl (nat_lt n x.number) refl (view_current n x.number u xs h.1)
  where
    at : (b : Bool) → (is_state_report x.kind && list_any (is_report_of x.step) xs) ≡ b → (c : Bool) → nat_lt n x.number ≡ c → view (later n (current xs)) u ≡ view (later n xs) u
        → view (later n (with b x (current xs))) u ≡ view (cond c (x ∷ later n xs) (later n xs)) u
    at true left true is rest =
        let low : n ≤ x.number = grind (arith, nat_tests, is) in
        rest ∙ sym (ap (λ l. option_or (view l u) (shows u x)) (all_later n x.number xs low h.1) ∙ hidden u x xs (second (is_state_report x.kind) (list_any (is_report_of x.step) xs) left) ∙ ap (λ l. view l u) (sym (all_later n x.number xs low h.1)))
    at true left false is rest = rest
    at false left true is rest = rw (is) (ap (λ o. option_or o (shows u x)) rest)
    at false left false is rest = rw (is) rest

-- what is up to a number and what is later show together what both do
pub view_split : (a n m : ℕ) (u : List ℕ) (xs : List Event) → a ≤ n → Rising m xs → option_or (view (later n xs) u) (view (up_to n (later a xs)) u) ≡ view (later a xs) u
unfolding Rising
view_split a n m u [] low h = refl
view_split a n m u (x ∷ xs) low h = at (nat_lt n x.number) refl (nat_lt a x.number) refl (view_split a n x.number u xs low h.1)
  where
    within : (n m : ℕ) → nat_lt n m ≡ false → nat_le m n ≡ true
    within n m is = grind (arith, nat_tests)

    at : (b : Bool) → nat_lt n x.number ≡ b → (c : Bool) → nat_lt a x.number ≡ c → option_or (view (later n xs) u) (view (up_to n (later a xs)) u) ≡ view (later a xs) u
        → option_or (view (cond b (x ∷ later n xs) (later n xs)) u) (view (up_to n (cond c (x ∷ later a xs) (later a xs))) u) ≡ view (cond c (x ∷ later a xs) (later a xs)) u
    at true is false not_later rest = absurd (grind (arith, nat_tests, is, not_later, low))
    at true is true later_too rest =
        let here : n < x.number = grind (arith, nat_tests, is) in
        let next : n ≤ x.number = omega (arith, here) in
        let first : a ≤ x.number = omega (arith, low, next) in
        rw (is_over n x.number here, all_later n x.number xs next h.1, all_later a x.number xs first h.1, none_up_to n x.number xs next h.1) (or_none (option_or (view xs u) (shows u x)))
    at false is true later_too rest =
        rw (within n x.number is) (sym (or_assoc (view (later n xs) u) (view (up_to n (later a xs)) u) (shows u x)) ∙ ap (λ o. option_or o (shows u x)) rest)
    at false is false not_later rest = rest
