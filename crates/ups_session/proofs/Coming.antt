-- What comes to a session, one after the other.
use Rattle.std.proofs.Common.{◌≡◌, ℕ, List, [], ◌∷◌, ◌++◌, Result, Ok, Err, refl, sym, ap, ◌∙◌, subst, append_assoc, append-nil, inl, inr}
use Rattle.ups_session.specs.declared.fault.SessionFault.{SessionFault}
use Rattle.ups_session.specs.declared.fault.SessionFault.TheVariants.{Read, Write, Turns, Memory}
use Rattle.ups_session.specs.WatchedIo.{Input, HasEnded}
use Rattle.ups_pdu.specs.declared.fault.PduFault.{PduFault}
use Rattle.ups_session.specs.declared.fault.End.{End}
use Rattle.ups_session.specs.Fold.{Side, Arrival, pdu, bad, closed, brings, Chain, Happens, Processes, IsOpen}
use Rattle.ups_session.specs.World.{World, Performed}
use Rattle.ups_session.specs.Session.{Spells, SpellsAll, AtEnd, NoEnd, lost, within, GoesOn, okay, failing, Progress, IsSession}
use Rattle.ups_session.specs.Visits.{FallsShort}
use Rattle.ups_session.specs.Turn.{IsTurn}
use Rattle.ups_session.proofs.Chains.{chain_one}
use Rattle.ups_session.specs.declared.pdu_io.PduRead.{PduRead}
use Rattle.ups_session.specs.declared.pdu_io.PduRead.TheVariants as reads
use Rattle.ups_session.specs.Broken.{IsBadPdu, IsLost}
use Rattle.ups_session.specs.Reading as reading
use Rattle.ups_session.proofs.Going.{goes_on, goes_nowhere, goes_short}

spells_on : {A : Type 0} (bytes more : List ℕ) (arrivals : List (Arrival A)) (a : Arrival A) → SpellsAll bytes arrivals → Spells more a → SpellsAll (bytes ++ more) (arrivals ++ a ∷ [])
spells_on bytes more [] a e s = (more, [], ap (λ l. l ++ more) e ∙ sym (append-nil more), s, refl)
spells_on bytes more (b ∷ arrivals) a (front, rest, e, s, all) t = (front, rest ++ more, ap (λ l. l ++ more) e ∙ append_assoc front rest more, s, spells_on rest more arrivals a all t)

pub at_end_on : {A : Type 0} (now : Input) (arrivals : List (Arrival A)) (a : Arrival A) → NoEnd arrivals → AtEnd now (a ∷ []) → AtEnd now (arrivals ++ a ∷ [])
at_end_on now [] a none_yet h = h
at_end_on now (closed ∷ arrivals) a none_yet h = absurd none_yet
at_end_on now (pdu p ∷ arrivals) a none_yet h = at_end_on now arrivals a none_yet h
at_end_on now (bad f ∷ arrivals) a none_yet h = at_end_on now arrivals a none_yet h

pub no_end_on : {A : Type 0} (arrivals : List (Arrival A)) (a : Arrival A) → NoEnd arrivals → NoEnd (a ∷ []) → NoEnd (arrivals ++ a ∷ [])
no_end_on [] a none_yet h = h
no_end_on (closed ∷ arrivals) a none_yet h = absurd none_yet
no_end_on (pdu p ∷ arrivals) a none_yet h = no_end_on arrivals a none_yet h
no_end_on (bad f ∷ arrivals) a none_yet h = no_end_on arrivals a none_yet h

-- all that one thing brings happened: it was taken
pub taken_whole : {A L W : Type 0} (side : Side A L W) (a : Arrival A) (association after : L) (u v : World A) → IsOpen (side.state association) → Performed (Happens side) (brings a) association after u v okay → Performed (Processes side) (a ∷ []) association after u v okay
taken_whole {A} {L} side a association after u v open_ g =
    let some = g.did.1 in
    let ran : Chain (Happens side) (brings a) association g.due g.end = subst (λ hs. Chain (Happens side) hs association g.due g.end) some g.ran in
    record {
      some = a ∷ [];
      due = g.due;
      end = g.end;
      visits = g.visits;
      sent = g.sent;
      ran = chain_one (Processes side) a association g.end g.due (open_, ran);
      changes = g.changes;
      did = (g.did.0, refl);
      sends = g.sends;
    }

-- what the side does first happened
pub came_begun : {A L W : Type 0} (side : Side A L W) (start begun : L) (u v : World A) → Performed (Happens side) side.first start begun u v okay → Progress side start begun [] [] [] u v
came_begun side start begun u v begins = record { whole = []; parts = refl; spells = refl; begun = begun; between = v; begins = begins; performed = goes_nowhere (Processes side) begun v tt }

pub came_on : {A L W : Type 0} (side : Side A L W) (start mid after : L) (input more : List ℕ) (arrivals : List (Arrival A)) (a : Arrival A) (u v w : World A)
    → Progress side start mid input [] arrivals u v → IsOpen (side.state mid) → Spells more a → Performed (Happens side) (brings a) mid after v w okay → Progress side start after (input ++ more) [] (arrivals ++ a ∷ []) u w
came_on side start mid after input more arrivals a u v w c open_ s g =
    let all : input ≡ c.whole = c.parts ∙ append-nil c.whole in
    record {
      whole = input ++ more;
      parts = sym (append-nil (input ++ more));
      spells = subst (λ (l : List ℕ). SpellsAll (l ++ more) (arrivals ++ a ∷ [])) (sym all) (spells_on c.whole more arrivals a c.spells s);
      begun = c.begun;
      between = c.between;
      begins = c.begins;
      performed = goes_on (Processes side) arrivals (a ∷ []) c.begun mid after c.between v w tt okay c.performed (taken_whole side a mid after v w open_ g);
    }

-- and something was read behind it
pub came_more : {A L W : Type 0} (side : Side A L W) (start after : L) (input rest : List ℕ) (arrivals : List (Arrival A)) (u v : World A) → Progress side start after input [] arrivals u v → Progress side start after (input ++ rest) rest arrivals u v
came_more side start after input rest arrivals u v c = record {
  whole = c.whole;
  parts = ap (λ l. l ++ rest) (c.parts ∙ append-nil c.whole);
  spells = c.spells;
  begun = c.begun;
  between = c.between;
  begins = c.begins;
  performed = c.performed;
}

abbrev pub stopped : SessionFault → Result End SessionFault
stopped fault = Err fault

-- a turn failed
pub session_failed : {A L W : Type 0} (side : Side A L W) (ending : L → End) (start association after : L) (turns : ℕ) (now : Input) (input more : List ℕ) (arrivals : List (Arrival A)) (u v w : World A) (fault : SessionFault)
    → Progress side start association input [] arrivals u v → GoesOn side association turns arrivals → IsTurn side association after now more v w (failing fault) → IsSession side ending start turns now (input ++ more) u w (stopped fault)
session_failed {A} side ending start association after turns now input more arrivals u v w Read c on (remainder, is, why, same) =
    (arrivals, association, more, remainder, subst (λ (x : World A). Progress side start association (input ++ more) more arrivals u x) (sym same) (came_more side start association input more arrivals u v c), on, is, why)
session_failed side ending start association after turns now input more arrivals u v w Turns c on t = absurd t
session_failed side ending start association after turns now input more arrivals u v w Write c on (remainder, last, is, why, g) =
    inr (arrivals, association, more, remainder, v, last, came_more side start association input more arrivals u v c, on, is, why, g)
session_failed side ending start association after turns now input more arrivals u v w Memory c on (remainder, last, is, why, g) =
    inr (arrivals, association, more, remainder, v, last, came_more side start association input more arrivals u v c, on, is, why, g)

-- not all of what the side does first happened
pub session_unbegun : {A L W : Type 0} (side : Side A L W) (ending : L → End) (start last : L) (turns : ℕ) (now : Input) (u v : World A) (fault : SessionFault)
    → Performed (Happens side) side.first start last u v (failing fault) → IsSession side ending start turns now [] u v (stopped fault)
session_unbegun side ending start last turns now u v Write g = inl (last, refl, g)
session_unbegun side ending start last turns now u v Memory g = inl (last, refl, g)
session_unbegun side ending start last turns now u v Read g = absurd (no_read g.sends.1)
  where
    no_read : FallsShort Read v.output.failed g.visits g.sent → ⊥
    no_read (inl (e, really, part)) = cc
    no_read (inr (e, part)) = cc
session_unbegun side ending start last turns now u v Turns g = absurd (no_turns g.sends.1)
  where
    no_turns : FallsShort Turns v.output.failed g.visits g.sent → ⊥
    no_turns (inl (e, really, part)) = cc
    no_turns (inr (e, part)) = cc

abbrev pub got : PduRead → Result PduRead SessionFault
got x = Ok x

-- memory ran out while something was read
pub turned_lost : {A L W : Type 0} (side : Side A L W) (association after : L) (now : Input) (input : List ℕ) (u : World A) (fault : SessionFault) → fault ≡ Memory → IsLost A input → IsTurn side association after now input u u (failing fault)
turned_lost side association after now input u fault is begun = rw is (lost, association, begun, refl, goes_short (Happens side) [] association association u)

-- something came, and not all that it brings happened
pub turned_part : {A L W : Type 0} (side : Side A L W) (association after : L) (now : Input) (input : List ℕ) (a : Arrival A) (u v : World A) (fault : SessionFault) → Spells input a → AtEnd now (a ∷ []) → Performed (Happens side) (brings a) association after u v (failing fault)
    → IsTurn side association after now input u v (failing fault)
turned_part side association after now input a u v Write s end g = (within a, after, (s, end), inl refl, g)
turned_part side association after now input a u v Memory s end g = (within a, after, (s, end), inr refl, g)
turned_part side association after now input a u v Read s end g = absurd (no_read g.sends.1)
  where
    no_read : FallsShort Read v.output.failed g.visits g.sent → ⊥
    no_read (inl (e, really, part)) = cc
    no_read (inr (e, part)) = cc
turned_part side association after now input a u v Turns s end g = absurd (no_turns g.sends.1)
  where
    no_turns : FallsShort Turns v.output.failed g.visits g.sent → ⊥
    no_turns (inl (e, really, part)) = cc
    no_turns (inr (e, part)) = cc

-- something came, and what it brings happened, or a beginning of it
pub turned : {A L W : Type 0} (side : Side A L W) (association after : L) (now : Input) (input : List ℕ) (a : Arrival A) (u v : World A) (r : Result (Unit {0}) SessionFault) → Spells input a → AtEnd now (a ∷ []) → Performed (Happens side) (brings a) association after u v r
    → IsTurn side association after now input u v r
turned side association after now input a u v (Ok done) s end g = (a, s, end, g)
turned side association after now input a u v (Err fault) s end g = turned_part side association after now input a u v fault s end g

pub got_whole : (A : Type 0) (now : Input) (input bytes : List ℕ) (x : PduRead) → x ≡ reads.Whole → reading.IsRead A now input bytes (got x) → (bytes ≡ input) × reading.IsComplete input
got_whole A now input bytes x is t = subst (λ (y : PduRead). reading.IsRead A now input bytes (got y)) is t

pub got_bad : (A : Type 0) (now : Input) (input bytes : List ℕ) (x : PduRead) (f : PduFault) → x ≡ reads.Bad f → reading.IsRead A now input bytes (got x) → IsBadPdu A input f
got_bad A now input bytes x f is t = subst (λ (y : PduRead). reading.IsRead A now input bytes (got y)) is t

pub got_closed : (A : Type 0) (now : Input) (input bytes : List ℕ) (x : PduRead) → x ≡ reads.Closed → reading.IsRead A now input bytes (got x) → (input ≡ []) × HasEnded now
got_closed A now input bytes x is t = subst (λ (y : PduRead). reading.IsRead A now input bytes (got y)) is t
