-- An acknowledgement of a report receives only what its delivery reported.
use Rattle.std.proofs.Common.{◌≡◌, ◌⊎◌, inl, inr, ℕ, zero, suc, ◌+◌, ◌<◌, ◌≤◌, Bool, true, false, cond, List, [], ◌∷◌, ◌++◌, length, map, take, refl, sym, ap, subst, arith, length-append}
use Rattle.std.specs.Prelude.{nat_lt, nat_le}
use Rattle.std.specs.List.{All, AllPairs, Contains}
use Rattle.std.specs.Str.{bytes_eq}
use Rattle.std.proofs.lemmas.Bool.Decides.{nat_tests}
use Rattle.std.proofs.lemmas.List.{reverse-append}
use Rattle.std.proofs.lemmas.List.Elements.{All-contains, All-contains_itself, All-take}
use Rattle.ups_life.specs.declared.entry.Entry.{Entry}
use Rattle.ups_life.specs.declared.event.Event.{Event}
use Rattle.ups_life.specs.declared.event_reports.EventReport.{EventReport}
use Rattle.ups_life.specs.declared.request.Request.{Request}
use Rattle.ups_life.specs.declared.request.Request.TheVariants.{Ack}
use Rattle.ups_life.specs.declared.request.Reply.TheVariants.{Status as Answered, AckAhead, AckStale}
use Rattle.ups_cycle.specs.declared.status.Status.TheVariants.{Success}
use Rattle.ups_life.specs.Settings.{Settings}
use Rattle.ups_life.specs.Steps.{past}
use Rattle.ups_life.specs.Events.{reports_of, numbered, events, acked_after, acked, current, pending, up_to}
use Rattle.ups_life.specs.History.{accepts, acknowledged, decided, legal}
use Rattle.ups_life.proofs.Accepted.{legal_head, legal_tail}
use Rattle.ups_life.proofs.Texts.{same_text}
use Rattle.ups_service.specs.Law.{is_legal}
use Rattle.ups_service.specs.Reporting.{report_of_event, reports_to}
use Rattle.ups_service.proofs.Members.{none_in_nil, here, there, here_or_there, was_there, passes, let_through, of_each, pairs_behind, pairs_first, mapped}
use Rattle.ups_service.proofs.Numbers.{numbered_above, up_to_made, current_before, is_own, not_acked, pending_rise}

-- A LONGER HISTORY

-- an acknowledgement that is accepted goes further than the one before
further : (A : Type 0) (made before upto : ℕ) → accepts {A = A} (acknowledged made before upto) ≡ true → before ≤ upto
further A made before upto h = at (nat_lt made upto) (nat_le upto before) refl h
  where
    at : (b c : Bool) → nat_le upto before ≡ c → accepts {A = A} (cond b AckAhead (cond c AckStale (Answered Success))) ≡ true → before ≤ upto
    at true c stale g = absurd cc
    at false true stale g = absurd cc
    at false false stale g = grind (arith, nat_tests, stale)

pub acked_further : {A : Type 0} (s : Settings) (es : List (Entry A)) (e : Entry A) (w : List ℕ) (r : Request A) → accepts (decided s es e r) ≡ true → acked es w ≤ acked_after w e.ae (acked es w) r
acked_further {A} s es e w (Ack upto) h = at (bytes_eq e.ae w) refl
  where
    at : (b : Bool) → bytes_eq e.ae w ≡ b → acked es w ≤ cond b upto (acked es w)
    at true same = subst (λ v. acked es v ≤ upto) (same_text e.ae w same) (further A (length (events s es e.ae)) (acked es e.ae) upto h)
    at false other = omega arith
acked_further s es e w r h = omega arith

module _ {A : Type 0} (s : Settings) (es : List (Entry A)) (w : List ℕ) where
  acked_rises : (ls : List (Entry A)) → legal s (ls ++ es) ≡ true → acked es w ≤ acked (ls ++ es) w
  acked_rises [] h = omega arith
  acked_rises (e ∷ ls) h =
      let before = acked_rises ls (legal_tail s e (ls ++ es) h) in
      let now = acked_further s (ls ++ es) e w e.request (legal_head s e (ls ++ es) h) in
      omega (arith, before, now)

  made_rises : (ls : List (Entry A)) → length (events s es w) ≤ length (events s (ls ++ es) w)
  made_rises [] = omega arith
  made_rises (e ∷ ls) =
      let before = made_rises ls in
      let more = length-append (events s (ls ++ es) w) (numbered (length (events s (ls ++ es) w) + 1) (length (ls ++ es)) (reports_of s (ls ++ es) e w e.request)) in
      omega (arith, before, more)

  -- what was made by then and is current was current then
  was_current : (ls : List (Entry A)) (x : Event) → Contains (current (events s (ls ++ es) w)) x → x.number ≤ length (events s es w) → Contains (current (events s es w)) x
  was_current [] x in' low = in'
  was_current (e ∷ ls) x in' low =
      at (current_before (events s (ls ++ es) w) (numbered (length (events s (ls ++ es) w) + 1) (length (ls ++ es)) (reports_of s (ls ++ es) e w e.request)) x in')
      (λ g. was_current ls x g low) (made_rises ls)
    where
      at : Contains (current (events s (ls ++ es) w)) x ⊎ Contains (numbered (length (events s (ls ++ es) w) + 1) (length (ls ++ es)) (reports_of s (ls ++ es) e w e.request)) x
          → (Contains (current (events s (ls ++ es) w)) x → Contains (current (events s es w)) x) → length (events s es w) ≤ length (events s (ls ++ es) w) → Contains (current (events s es w)) x
      at (inl g) rest more = rest g
      at (inr g) rest more =
          let far : length (events s (ls ++ es) w) < x.number = numbered_above (length (events s (ls ++ es) w)) (length (ls ++ es)) (reports_of s (ls ++ es) e w e.request) x g in
          absurd (omega (arith, far, more, low))

  pub is_above : (n m : ℕ) → n < m → nat_lt n m ≡ true
  is_above n m h = grind (arith, nat_tests)

  was_pending : (ls : List (Entry A)) (x : Event) → legal s (ls ++ es) ≡ true → Contains (pending s (ls ++ es) w) x → x.number ≤ length (events s es w) → Contains (pending s es w) x
  was_pending ls x h in' low =
      let far : acked (ls ++ es) w < x.number = not_acked s (ls ++ es) w x in' in
      let rises = acked_rises ls h in
      let_through (λ (y : Event). nat_lt (acked es w) y.number) (current (events s es w)) x
      (was_current ls x (was_there (λ (y : Event). nat_lt (acked (ls ++ es) w) y.number) (current (events s (ls ++ es) w)) x in') low)
      (is_above (acked es w) x.number (omega (arith, far, rises)))

-- WHAT IS TAKEN

-- what stands before one that is taken is taken too
taken_before : (n : ℕ) (xs : List Event) (x y : Event) → AllPairs (λ (v z : Event). v.number < z.number) xs → Contains xs x → Contains (take n xs) y → x.number ≤ y.number → Contains (take n xs) x
taken_before zero xs x y order in_x in_y low = absurd (none_in_nil y in_y)
taken_before (suc n) [] x y order in_x in_y low = absurd (none_in_nil x in_x)
taken_before (suc n) (z ∷ zs) x y order in_x in_y low =
    at (here_or_there z zs x in_x) (here_or_there z (take n zs) y in_y) (λ g k. taken_before n zs x y (pairs_behind (λ (v z : Event). v.number < z.number) z zs order) g k low)
  where
    at : (z ≡ x) ⊎ Contains zs x → (z ≡ y) ⊎ Contains (take n zs) y → (Contains zs x → Contains (take n zs) y → Contains (take n zs) x) → Contains (z ∷ take n zs) x
    at (inl same) k rest = subst (Contains (z ∷ take n zs)) same (here z (take n zs))
    at (inr g) (inl same) rest =
        let high : z.number < x.number = All-contains (λ (v : Event). z.number < v.number) zs x (pairs_first (λ (v z : Event). v.number < z.number) z zs order) g in
        let one = ap (λ (v : Event). v.number) same in
        absurd (omega (arith, high, one, low))
    at (inr g) (inr k) rest = there z (take n zs) x (rest g k)

reported : {A : Type 0} (history : List (Entry A)) (xs : List Event) → map (λ (r : EventReport A). r.event) (map (report_of_event history) xs) ≡ xs
reported history [] = refl
reported history (x ∷ xs) = ap (λ l. x ∷ l) (reported history xs)

module _ {A : Type 0} (s : Settings) (history later : List (Entry A)) (max : ℕ) (w : List ℕ) (r : EventReport A) where
  was_taken : Contains (reports_to s history max w) r → Contains (take max (pending s (past history) w)) r.event
  was_taken in' =
      subst (λ l. Contains l r.event) (reported history (take max (pending s (past history) w)))
      (mapped (λ (q : EventReport A). q.event) (reports_to s history max w) r in')

  was_reported : is_legal s (history ++ later) → Contains (reports_to s history max w) r → (x : Event) → Contains (up_to r.event.number (pending s (past (history ++ later)) w)) x
      → Contains (map (λ (q : EventReport A). q.event) (reports_to s history max w)) x
  was_reported h in' x in_x =
      let now : legal s (past later ++ past history) ≡ true = subst (λ (es : List (Entry A)). legal s es ≡ true) (reverse-append history later) h in
      let pends : Contains (pending s (past later ++ past history) w) x =
      subst (λ (es : List (Entry A)). Contains (pending s es w) x) (reverse-append history later) (was_there (λ (y : Event). nat_le y.number r.event.number) (pending s (past (history ++ later)) w) x in_x) in
      let passed = passes (λ (y : Event). nat_le y.number r.event.number) (pending s (past (history ++ later)) w) x in_x in
      let low : x.number ≤ r.event.number = grind (arith, nat_tests, passed) in
      let taken = was_taken in' in
      let made : r.event.number ≤ length (events s (past history) w) =
      up_to_made s (past history) w r.event (is_own s (past history) w r.event (All-contains (Contains (pending s (past history) w)) (take max (pending s (past history) w)) r.event
      (All-take (Contains (pending s (past history) w)) max (pending s (past history) w) (All-contains_itself (pending s (past history) w))) taken)) in
      let pended : Contains (pending s (past history) w) x = was_pending s (past history) w (past later) x now pends (omega (arith, low, made)) in
      subst (λ l. Contains l x) (sym (reported history (take max (pending s (past history) w))))
      (taken_before max (pending s (past history) w) x r.event (pending_rise s (past history) w) pended taken low)

  pub receives_reported : is_legal s (history ++ later) → Contains (reports_to s history max w) r
      → All (Contains (map (λ (q : EventReport A). q.event) (reports_to s history max w))) (up_to r.event.number (pending s (past (history ++ later)) w))
  receives_reported h in' = of_each (Contains (map (λ (q : EventReport A). q.event) (reports_to s history max w))) (up_to r.event.number (pending s (past (history ++ later)) w)) (was_reported h in')
