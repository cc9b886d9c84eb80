-- An event that is pending after an entry is one of that entry, or was pending before.
use Rattle.std.proofs.Common.{◌≡◌, ◌⊎◌, inl, inr, ℕ, ◌+◌, ◌<◌, true, List, [], ◌∷◌, length, ap, sym, arith}
use Rattle.std.specs.Prelude.{nat_lt}
use Rattle.std.specs.List.{Contains}
use Rattle.ups_life.specs.declared.entry.Entry.{Entry}
use Rattle.ups_life.specs.declared.event.Event.{Event}
use Rattle.ups_life.specs.declared.event.Report.{Report}
use Rattle.ups_life.specs.Settings.{Settings}
use Rattle.ups_life.specs.Events.{reports_of, numbered, events, acked, current, pending}
use Rattle.ups_life.specs.History.{legal}
use Rattle.ups_life.proofs.Accepted.{legal_head}
use Rattle.ups_service.proofs.Acknowledging.{acked_further, is_above}
use Rattle.ups_service.proofs.Members.{none_in_nil, here_or_there, was_there, let_through}
use Rattle.ups_service.proofs.Numbers.{current_before, not_acked}

-- the events of an entry have its place
placed : (n place : ℕ) (xs : List Report) (x : Event) → Contains (numbered n place xs) x → x.entry ≡ place
placed n place [] x in' = absurd (none_in_nil x in')
placed n place (r ∷ rs) x in' =
    at (here_or_there (record { number = n; entry = place; kind = r.kind; step = r.step; state = r.state; readiness = r.readiness }) (numbered (n + 1) place rs) x in') (λ g. placed (n + 1) place rs x g)
  where
    at : (record { number = n; entry = place; kind = r.kind; step = r.step; state = r.state; readiness = r.readiness } ≡ x) ⊎ Contains (numbered (n + 1) place rs) x
        → (Contains (numbered (n + 1) place rs) x → x.entry ≡ place) → x.entry ≡ place
    at (inl same) rest = sym (ap (λ (y : Event). y.entry) same)
    at (inr g) rest = rest g

pub still_pending : {A : Type 0} (s : Settings) (e : Entry A) (es : List (Entry A)) (w : List ℕ) (x : Event) → legal s (e ∷ es) ≡ true → Contains (pending s (e ∷ es) w) x → (x.entry ≡ length es) ⊎ Contains (pending s es w) x
still_pending s e es w x l in' =
    at (current_before (events s es w) (numbered (length (events s es w) + 1) (length es) (reports_of s es e w e.request)) x (was_there (λ (y : Event). nat_lt (acked (e ∷ es) w) y.number) (current (events s (e ∷ es) w)) x in'))
  where
    at : Contains (current (events s es w)) x ⊎ Contains (numbered (length (events s es w) + 1) (length es) (reports_of s es e w e.request)) x → (x.entry ≡ length es) ⊎ Contains (pending s es w) x
    at (inl g) =
        let far : acked (e ∷ es) w < x.number = not_acked s (e ∷ es) w x in' in
        let rises = acked_further s es e w e.request (legal_head s e es l) in
        inr (let_through (λ (y : Event). nat_lt (acked es w) y.number) (current (events s es w)) x g (is_above s es w (acked es w) x.number (omega (arith, far, rises))))
    at (inr g) = inl (placed (length (events s es w) + 1) (length es) (reports_of s es e w e.request) x g)
