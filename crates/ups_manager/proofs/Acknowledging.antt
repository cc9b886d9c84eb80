-- What is decided of an acknowledgement.
use Rattle.std.proofs.Common.{◌≡◌, ◌<◌, arith, true≢false, ℕ, zero, suc, Bool, true, false, cond, List, Option, None, Some, refl, sym, ap, ◌∙◌}
use Rattle.std.specs.Prelude.{nat_lt, nat_le}
use Rattle.std.proofs.lemmas.Bool.Decides.{nat_tests}
use Rattle.ups_cycle.specs.declared.status.Status.TheVariants.{Success}
use Rattle.ups_life.specs.declared.entry.Entry.{Entry}
use Rattle.ups_life.specs.declared.request.Request.{Request}
use Rattle.ups_life.specs.declared.request.Request.TheVariants.{Ack}
use Rattle.ups_life.specs.declared.request.Reply.{Reply}
use Rattle.ups_life.specs.declared.request.Reply.TheVariants.{Status as Answered, AckAhead, AckStale}
use Rattle.ups_life.specs.declared.peer.Peer.{Peer}
use Rattle.ups_life.specs.Settings.{Settings}
use Rattle.ups_life.specs.History.{acknowledged, decided, accepts}
use Rattle.ups_life.specs.Steps.{past}
use Rattle.ups_events.specs.declared.fault.AckFault.TheVariants.{AckAhead as AheadFault, AckStale as StaleFault}
use Rattle.ups_events.specs.Queue.{ack_fault, queue_at}
use Rattle.ups_events.specs.Queue as lists
use Rattle.ups_events.specs.Telling.{Line, empty_line}
use Rattle.ups_tables.specs.Live.{is_of_no_step}
use Rattle.ups_tables.proofs.Asking.{ack_by}
use Rattle.ups_tables.specs.declared.tables.Tables.{Tables}
use Rattle.ups_tables.specs.Fit.{queue_line}
use Rattle.ups_tables.specs.Places.{place_of_title, by_place}
use Rattle.ups_tables.specs.Stands.{Stands}
use Rattle.ups_tables.specs.Planned.{PlansAck}
use Rattle.ups_service.specs.Law.{SmallReply}
use Rattle.ups_manager.specs.declared.deciding.Kind.TheVariants.{OfEvents}
use Rattle.ups_manager.specs.Deciding.{kind_of}
use Rattle.ups_manager.proofs.Watches.{to_live}

pub of_events : {A : Type 0} (r : Request A) (n : ℕ) → kind_of r ≡ OfEvents n → r ≡ Ack n
of_events (Ack upto) n h = let same : upto ≡ n = cc in ap (λ k. Ack k) same
of_events r n h = absurd cc

pub events_of_no_step : {A : Type 0} (r : Request A) (n : ℕ) → kind_of r ≡ OfEvents n → is_of_no_step r ≡ true
events_of_no_step (Ack upto) n h = refl
events_of_no_step r n h = absurd cc

-- it is what the queue of who asks says, of how many events were made and up to which they are acknowledged
pub ack_decided : {A : Type 0} (s : Settings) (history : List (Entry A)) (e : Entry A) (t : Tables A) (n : ℕ) (peers : List Peer) (place : Option ℕ) (made acked : ℕ) (x : Reply A) → Stands s history t → kind_of e.request ≡ OfEvents n → peers ≡ s.peers → place ≡ place_of_title peers e.ae
    → made ≡ (by_place empty_line (λ p. queue_line t p) place).made → acked ≡ (by_place empty_line (λ p. queue_line t p) place).acked → x ≡ acknowledged made acked n
    → decided s (past history) e e.request ≡ x
ack_decided {A} s history e t n peers place made acked x st kind named at m a reply =
    let q : Option ℕ → Line = λ o. by_place empty_line (λ p. queue_line t p) o in
    let here : place ≡ place_of_title s.peers e.ae = at ∙ ap (λ (ps : List Peer). place_of_title ps e.ae) named in
    ap (decided s (past history) e) (of_events e.request n kind) ∙ ack_by s e (past history) _ _ _ _ _ _ (to_live s (past history) t st.lives) n
    ∙ sym (reply ∙ ap (λ k. acknowledged {A = A} k acked n) (m ∙ ap (λ o. (q o).made) here) ∙ ap (λ k. acknowledged {A = A} (q (place_of_title s.peers e.ae)).made k n) (a ∙ ap (λ o. (q o).acked) here))

-- who is no peer has nothing to acknowledge
pub never_acked : (A : Type 0) (n : ℕ) → accepts (acknowledged {A = A} 0 0 n) ≡ true → ⊥
never_acked A zero h = absurd cc
never_acked A (suc n) h =
    let pos : 0 < suc n = omega arith in
    let t : nat_lt 0 (suc n) ≡ true = grind (arith, nat_tests, pos) in
    true≢false (sym (ap (λ b. accepts {A = A} (cond b AckAhead (cond (nat_le (suc n) 0) AckStale (Answered Success)))) (sym t) ∙ h))

pub acked_none : (A : Type 0) (t : Tables A) (n : ℕ) (place : Option ℕ) (made acked : ℕ) (x : Reply A) → place ≡ None → made ≡ (by_place empty_line (λ p. queue_line t p) place).made → acked ≡ (by_place empty_line (λ p. queue_line t p) place).acked
    → x ≡ acknowledged made acked n → accepts x ≡ true → ⊥
acked_none A t n place made acked x none m a reply ok =
    never_acked A n (ap (λ k. accepts (acknowledged {A = A} k 0 n)) (sym (m ∙ ap (λ o. (by_place empty_line (λ p. queue_line t p) o).made) none))
    ∙ ap (λ k. accepts (acknowledged {A = A} made k n)) (sym (a ∙ ap (λ o. (by_place empty_line (λ p. queue_line t p) o).acked) none)) ∙ ap accepts (sym reply) ∙ ok)

-- what is accepted is taken
accepted_taken : (A : Type 0) (made acked n : ℕ) → accepts (acknowledged {A = A} made acked n) ≡ true → (q : lists.QueueView) → q.made ≡ made → q.acked ≡ acked → ack_fault q n ≡ None
accepted_taken A made acked n h q m a = rw (m, a) (by (nat_lt made n) (nat_le n acked) h)
  where
    by : (x y : Bool) → accepts {A = A} (cond x AckAhead (cond y AckStale (Answered Success))) ≡ true → cond x (Some AheadFault) (cond y (Some StaleFault) None) ≡ None
    by true y h = absurd cc
    by false true h = absurd cc
    by false false h = refl

pub ack_plan : {A : Type 0} (s : Settings) (e : Entry A) (t : Tables A) (n : ℕ) (peers : List Peer) (place : Option ℕ) (peer made acked : ℕ) (x : Reply A) → kind_of e.request ≡ OfEvents n → peers ≡ s.peers → place ≡ place_of_title peers e.ae → place ≡ Some peer
    → made ≡ (by_place empty_line (λ p. queue_line t p) place).made → acked ≡ (by_place empty_line (λ p. queue_line t p) place).acked → x ≡ acknowledged made acked n → accepts x ≡ true → PlansAck s e t peer n
ack_plan {A} s e t n peers place peer made acked x kind named at is m a reply ok = record {
  place = ap (λ (ps : List Peer). place_of_title ps e.ae) (sym named) ∙ sym at ∙ is;
  request = of_events e.request n kind;
  allowed = accepted_taken A made acked n (ap accepts (sym reply) ∙ ok) (queue_at t.queues peer) (sym (m ∙ ap (λ o. (by_place empty_line (λ p. queue_line t p) o).made) is)) (sym (a ∙ ap (λ o. (by_place empty_line (λ p. queue_line t p) o).acked) is));
}

-- the reply is small
pub small : (A : Type 0) (made before upto : ℕ) → SmallReply (acknowledged {A = A} made before upto)
small A made before upto = at (nat_lt made upto) (nat_le upto before)
  where
    at : (a b : Bool) → SmallReply {A = A} (cond a AckAhead (cond b AckStale (Answered Success)))
    at true b = tt
    at false true = tt
    at false false = tt
