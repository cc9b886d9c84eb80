-- What a watcher may have got shows, with what is pending for it, what all its events show.
use Rattle.std.proofs.Common.{◌≡◌, ◌⊎◌, inl, inr, ℕ, ◌+◌, ◌<◌, ◌≤◌, Bool, true, false, cond, ◌&&◌, List, [], ◌∷◌, ◌++◌, length, Some, None, refl, sym, ap, subst, ◌∙◌, arith}
use Rattle.std.specs.Prelude.{nat_lt, nat_le}
use Rattle.std.specs.List.{list_any, All, AllPairs, Contains}
use Rattle.std.specs.Option.{option_or}
use Rattle.std.specs.Str.{bytes_eq}
use Rattle.std.proofs.lemmas.Bool.Decides.{nat_tests}
use Rattle.std.proofs.lemmas.List.Elements.{All-contains, Contains-append_left, Contains-append_right}
use Rattle.std.proofs.lemmas.List.Folds.{list_any_none}
use Rattle.ups_life.specs.declared.entry.Entry.{Entry}
use Rattle.ups_life.specs.declared.event.Event.{Event}
use Rattle.ups_life.specs.declared.request.Request.{Request}
use Rattle.ups_life.specs.declared.request.Request.TheVariants.{Ack}
use Rattle.ups_life.specs.Settings.{Settings}
use Rattle.ups_life.specs.Steps.{past}
use Rattle.ups_life.specs.Events.{reports_of, numbered, events, acked_after, acked, is_state_report, is_report_of, current, pending, up_to, received_after, received, shows, view}
use Rattle.ups_life.specs.History.{legal}
use Rattle.ups_life.proofs.Accepted.{legal_tail}
use Rattle.ups_life.proofs.Current.{Rising}
use Rattle.ups_life.proofs.Receiving.{acked_made}
use Rattle.ups_life.proofs.Texts.{same_text}
use Rattle.ups_life.proofs.Viewing.{view-append, or_assoc}
use Rattle.ups_service.specs.Law.{is_legal}
use Rattle.ups_service.specs.Reporting.{MayHaveGot}
use Rattle.ups_service.proofs.Members.{none_in_nil, here, there, here_or_there, let_through, of_each, pairs_behind, pairs_first}
use Rattle.ups_service.proofs.Numbers.{above, one_number, rise, events_rise, numbered_above, is_event, current_before, is_own, not_acked, pending_rise, never_fall}

-- WHAT IS CURRENT AND ACKNOWLEDGED WAS RECEIVED

-- above a number, or up to it
which : (n m : ℕ) → (n < m) ⊎ (m ≤ n)
which n m = at (nat_lt n m) refl
  where
    at : (b : Bool) → nat_lt n m ≡ b → (n < m) ⊎ (m ≤ n)
    at true is = inl (grind (arith, nat_tests, is))
    at false is = inr (grind (arith, nat_tests, is))

is_later : (n m : ℕ) → n < m → nat_lt n m ≡ true
is_later n m h = grind (arith, nat_tests)

is_within : (n m : ℕ) → m ≤ n → nat_le m n ≡ true
is_within n m h = grind (arith, nat_tests)

made_later : {A : Type 0} (s : Settings) (es : List (Entry A)) (e : Entry A) (w : List ℕ) (x : Event) (r : Request A) → acked es w ≤ length (events s es w) → x.number ≤ acked es w
    → Contains (current (events s es w)) x ⊎ Contains (numbered (length (events s es w) + 1) (length es) (reports_of s es e w r)) x → Contains (current (events s es w)) x
made_later s es e w x r made low (inl g) = g
made_later s es e w x r made low (inr g) =
    let far : length (events s es w) < x.number = numbered_above (length (events s es w)) (length es) (reports_of s es e w r) x g in
    absurd (omega (arith, far, low, made))

-- an acknowledgement makes no event
acknowledged_now : {A : Type 0} (s : Settings) (es : List (Entry A)) (e : Entry A) (w : List ℕ) (x : Event) (upto : ℕ) → (x.number ≤ acked es w → Contains (received s es w) x) → Contains (current (events s es w)) x
    → x.number ≤ acked_after {A = A} w e.ae (acked es w) (Ack upto) → Contains (received_after s es w e.ae (received s es w) (Ack upto)) x
acknowledged_now {A} s es e w x upto before in' low = at (bytes_eq e.ae w) low
  where
    at : (b : Bool) → x.number ≤ cond b upto (acked es w) → Contains (cond b (received s es w ++ up_to upto (pending s es w)) (received s es w)) x
    at false g = before g
    at true g = by (which (acked es w) x.number)
      where
        by : (acked es w < x.number) ⊎ (x.number ≤ acked es w) → Contains (received s es w ++ up_to upto (pending s es w)) x
        by (inr old) = Contains-append_left (received s es w) (up_to upto (pending s es w)) x (before old)
        by (inl new) = Contains-append_right (received s es w) (up_to upto (pending s es w)) x
            (let_through (λ (y : Event). nat_le y.number upto) (pending s es w) x
            (let_through (λ (y : Event). nat_lt (acked es w) y.number) (current (events s es w)) x in' (is_later (acked es w) x.number new)) (is_within upto x.number g))

one_more : {A : Type 0} (s : Settings) (es : List (Entry A)) (e : Entry A) (w : List ℕ) (x : Event) (r : Request A) → acked es w ≤ length (events s es w)
    → (Contains (current (events s es w)) x → x.number ≤ acked es w → Contains (received s es w) x)
    → Contains (current (events s es w)) x ⊎ Contains (numbered (length (events s es w) + 1) (length es) (reports_of s es e w r)) x
    → x.number ≤ acked_after w e.ae (acked es w) r → Contains (received_after s es w e.ae (received s es w) r) x
one_more s es e w x (Ack upto) made before (inl g) low = acknowledged_now s es e w x upto (before g) g low
one_more s es e w x (Ack upto) made before (inr g) low = absurd (none_in_nil x g)
one_more s es e w x r made before in' low = before (made_later s es e w x r made low in') low

pub current_received : {A : Type 0} (s : Settings) (es : List (Entry A)) (w : List ℕ) (x : Event) → legal s es ≡ true → Contains (current (events s es w)) x → x.number ≤ acked es w → Contains (received s es w) x
current_received s [] w x h in' low = absurd (none_in_nil x in')
current_received s (e ∷ es) w x h in' low =
    one_more s es e w x e.request (acked_made s es w (legal_tail s e es h)) (λ g k. current_received s es w x (legal_tail s e es h) g k)
    (current_before (events s es w) (numbered (length (events s es w) + 1) (length es) (reports_of s es e w e.request)) x in') low

-- VIEWS

-- no State Report of u
Silent : List ℕ → List Event → Type 0
Silent u xs = (x : Event) → Contains xs x → is_report_of u x ≡ false

-- x is the last State Report of u
record Last (u : List ℕ) (xs : List Event) (x : Event) : Type 0 where
  current : Contains (current xs) x
  report : is_report_of u x ≡ true
  last : (y : Event) → Contains xs y → is_report_of u y ≡ true → y.number ≤ x.number

silent_view : (u : List ℕ) (xs : List Event) → Silent u xs → view xs u ≡ None
unfolding Silent
silent_view u [] h = refl
silent_view u (x ∷ xs) h = rw (h x (here x xs), silent_view u xs (λ y in'. h y (there x xs y in')))

shown_by : (u : List ℕ) (x : Event) → is_report_of u x ≡ true → shows u x ≡ Some (record { state = x.state; readiness = x.readiness })
shown_by u x h = rw h

-- behind x no other State Report of u stands
same_view : (u : List ℕ) (x : Event) (xs : List Event) → is_report_of u x ≡ true → ((y : Event) → Contains xs y → is_report_of u y ≡ true → y ≡ x) → option_or (view xs u) (shows u x) ≡ shows u x
same_view u x [] is h = refl
same_view u x (y ∷ ys) is h =
    or_assoc (view ys u) (shows u y) (shows u x) ∙ ap (option_or (view ys u)) (at (is_report_of u y) refl) ∙ same_view u x ys is (λ z in'. h z (there y ys z in'))
  where
    at : (b : Bool) → is_report_of u y ≡ b → option_or (shows u y) (shows u x) ≡ shows u x
    at true e = let same = h y (here y ys) e in subst (λ (z : Event). option_or (shows u z) (shows u x) ≡ shows u x) (sym same) (rw (shown_by u x is) refl)
    at false e = rw e refl

-- a list in the order of the events shows what the last State Report of u shows, if it has that one
last_shown : (u : List ℕ) (xs got : List Event) (x : Event) → Rising 0 xs → Last u xs x → ((y : Event) → Contains got y → Contains xs y) → AllPairs (λ (y z : Event). y.number ≤ z.number) got → Contains got x → view got u ≡ shows u x
last_shown u xs [] x rises h own order in' = absurd (none_in_nil x in')
last_shown u xs (y ∷ ys) x rises h own order in' =
    at (here_or_there y ys x in') (λ g. last_shown u xs ys x rises h (λ z k. own z (there y ys z k)) (pairs_behind (λ (v z : Event). v.number ≤ z.number) y ys order) g)
  where
    others : y ≡ x → (z : Event) → Contains ys z → is_report_of u z ≡ true → z ≡ x
    others same z k is =
        let after : y.number ≤ z.number = All-contains (λ (v : Event). y.number ≤ v.number) ys z (pairs_first (λ (v z : Event). v.number ≤ z.number) y ys order) k in
        let before : z.number ≤ x.number = h.last z (own z (there y ys z k)) is in
        let one = ap (λ (v : Event). v.number) same in
        one_number 0 xs z x rises (own z (there y ys z k)) (is_event xs x h.current) (omega (arith, after, before, one))

    at : (y ≡ x) ⊎ Contains ys x → (Contains ys x → view ys u ≡ shows u x) → option_or (view ys u) (shows u y) ≡ shows u x
    at (inl same) rest = subst (λ (z : Event). option_or (view ys u) (shows u z) ≡ shows u x) (sym same) (same_view u x ys h.report (others same))
    at (inr g) rest = rw (rest g, shown_by u x h.report) refl

-- WHICH IS THE LAST ONE

find : (u : List ℕ) (n : ℕ) (xs : List Event) → Rising n xs → Silent u xs ⊎ ((x : Event) × Last u xs x)
unfolding Rising Silent
find u n [] h = inl (λ x in'. absurd (none_in_nil x in'))
find u n (y ∷ ys) h = at (find u y.number ys h.1) (is_report_of u y) refl
  where
    behind : (b : Bool) (x : Event) → Contains (current ys) x → Contains (cond b (current ys) (y ∷ current ys)) x
    behind true x in' = in'
    behind false x in' = there y (current ys) x in'

    later_one : (x : Event) → Last u ys x → Last u (y ∷ ys) x
    later_one x l = record {
      current = behind (is_state_report y.kind && list_any (is_report_of y.step) ys) x l.current;
      report = l.report;
      last = λ z in' is. by z (here_or_there y ys z in') is;
    }
      where
        by : (z : Event) → (y ≡ z) ⊎ Contains ys z → is_report_of u z ≡ true → z.number ≤ x.number
        by z (inl same) is = let high = above y.number ys x h.1 (is_event ys x l.current) in let one = ap (λ (v : Event). v.number) same in omega (arith, high, one)
        by z (inr g) is = l.last z g is

    step_of_this : (b c : Bool) → b && c ≡ true → b ≡ true
    step_of_this true c is = refl
    step_of_this false c is = absurd cc

    in_front : (b c : Bool) → c ≡ false → Contains (cond (b && c) (current ys) (y ∷ current ys)) y
    in_front true false none = here y (current ys)
    in_front false c none = here y (current ys)
    in_front true true none = absurd cc

    of_this : Silent u ys → is_report_of u y ≡ true → Silent y.step ys
    of_this silent is = subst (λ v. Silent v ys) (sym (same_text y.step u (step_of_this (bytes_eq y.step u) (is_state_report y.kind) is))) silent

    this_one : Silent u ys → is_report_of u y ≡ true → Last u (y ∷ ys) y
    this_one silent is = record {
      current = in_front (is_state_report y.kind) (list_any (is_report_of y.step) ys) (list_any_none (is_report_of y.step) ys (of_each (λ (z : Event). is_report_of y.step z ≡ false) ys (of_this silent is)));
      report = is;
      last = λ z in' too. by z (here_or_there y ys z in') too;
    }
      where
        by : (z : Event) → (y ≡ z) ⊎ Contains ys z → is_report_of u z ≡ true → z.number ≤ y.number
        by z (inl same) too = let one = ap (λ (v : Event). v.number) same in omega (arith, one)
        by z (inr g) too = absurd (let no : false ≡ true = sym (silent z g) ∙ too in cc)

    none : Silent u ys → is_report_of u y ≡ false → Silent u (y ∷ ys)
    none silent is x in' = by (here_or_there y ys x in')
      where
        by : (y ≡ x) ⊎ Contains ys x → is_report_of u x ≡ false
        by (inl same) = ap (is_report_of u) (sym same) ∙ is
        by (inr g) = silent x g

    at : Silent u ys ⊎ ((x : Event) × Last u ys x) → (b : Bool) → is_report_of u y ≡ b → Silent u (y ∷ ys) ⊎ ((x : Event) × Last u (y ∷ ys) x)
    at (inr l) b is = inr (l.0, later_one l.0 l.1)
    at (inl silent) true is = inr (y, this_one silent is)
    at (inl silent) false is = inl (none silent is)

-- WHAT MAY BE GOT, AND WHAT IS PENDING

module _ {A : Type 0} (s : Settings) (es : List (Entry A)) (w u : List ℕ) where
  own_shown : (got : List Event) (x : Event) → Last u (events s es w) x → ((y : Event) → Contains got y → Contains (events s es w) y) → AllPairs (λ (y z : Event). y.number ≤ z.number) got → Contains got x → view got u ≡ shows u x
  own_shown got x h own order in' = last_shown u (events s es w) got x (events_rise s es w) h own order in'

  all_shown : (x : Event) → Last u (events s es w) x → view (events s es w) u ≡ shows u x
  all_shown x h =
      own_shown (events s es w) x h (λ y in'. in') (never_fall (events s es w) (rise 0 (events s es w) (events_rise s es w))) (is_event (events s es w) x h.current)

  -- the last State Report of u is pending
  last_pending : (got : List Event) (x : Event) → Last u (events s es w) x → acked es w < x.number → option_or (view (pending s es w) u) (view got u) ≡ shows u x
  last_pending got x h new =
      let in' : Contains (pending s es w) x = let_through (λ (y : Event). nat_lt (acked es w) y.number) (current (events s es w)) x h.current (is_later (acked es w) x.number new) in
      ap (λ o. option_or o (view got u)) (own_shown (pending s es w) x h (λ y k. is_own s es w y k) (never_fall (pending s es w) (pending_rise s es w)) in' ∙ shown_by u x h.report)
      ∙ sym (shown_by u x h.report)

  -- the last State Report of u was received
  last_received : (got : List Event) (x : Event) → Last u (events s es w) x → x.number ≤ acked es w → view got u ≡ shows u x → option_or (view (pending s es w) u) (view got u) ≡ shows u x
  last_received got x h old shown = ap (option_or (view (pending s es w) u)) shown ∙ same_view u x (pending s es w) h.report none
    where
      none : (y : Event) → Contains (pending s es w) y → is_report_of u y ≡ true → y ≡ x
      none y in' is =
          let high : acked es w < y.number = not_acked s es w y in' in
          let low : y.number ≤ x.number = h.last y (is_own s es w y in') is in
          absurd (omega (arith, high, low, old))

  shown_with_pending : (got : List Event) → legal s es ≡ true → All (Contains (events s es w)) got → AllPairs (λ (y z : Event). y.number ≤ z.number) got → All (Contains got) (received s es w)
      → view (got ++ pending s es w) u ≡ view (events s es w) u
  unfolding Silent
  shown_with_pending got h own order has = view-append got (pending s es w) u ∙ at (find u 0 (events s es w) (events_rise s es w))
    where
      is_its : (y : Event) → Contains got y → Contains (events s es w) y
      is_its y in' = All-contains (Contains (events s es w)) got y own in'

      by : (x : Event) → Last u (events s es w) x → (acked es w < x.number) ⊎ (x.number ≤ acked es w) → option_or (view (pending s es w) u) (view got u) ≡ shows u x
      by x l (inl new) = last_pending got x l new
      by x l (inr old) = last_received got x l old (own_shown got x l is_its order (All-contains (Contains got) (received s es w) x has (current_received s es w x h l.current old)))

      at : Silent u (events s es w) ⊎ ((x : Event) × Last u (events s es w) x) → option_or (view (pending s es w) u) (view got u) ≡ view (events s es w) u
      at (inl silent) =
          ap (λ o. option_or o (view got u)) (silent_view u (pending s es w) (λ y in'. silent y (is_own s es w y in')))
          ∙ silent_view u got (λ y in'. silent y (is_its y in')) ∙ sym (silent_view u (events s es w) silent)
      at (inr l) = by l.0 l.1 (which (acked es w) l.0.number) ∙ sym (all_shown l.0 l.1)

pub got_shows : {A : Type 0} (s : Settings) (history : List (Entry A)) (w u : List ℕ) (got : List Event) → is_legal s history → MayHaveGot s history w got
    → view (got ++ pending s (past history) w) u ≡ view (events s (past history) w) u
got_shows s history w u got h g = shown_with_pending s (past history) w u got h g.its_own g.in_order g.has_received
