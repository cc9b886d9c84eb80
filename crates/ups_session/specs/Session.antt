-- What a session does with its input (PS3.8 section 9.2).
use Rattle.std.specs.Prelude.{◌≡◌, ◌≢◌, ◌⊎◌, ℕ, ◌<◌, ◌≤◌, List, [], ◌∷◌, ◌++◌, length, Result, Ok, Err}
use Rattle.ups_session.specs.WatchedIo.{Input, HasEnded}
use Rattle.ups_session.specs.declared.watched_io.LastRead.TheVariants.{Failed}
use Rattle.ups_pdu.specs.declared.fault.PduFault.TheVariants as faults
use Rattle.ups_pdu.specs.Spelling.{SpellsPdu, IsFault}
use Rattle.ups_session.specs.declared.fault.End.{End}
use Rattle.ups_session.specs.declared.fault.SessionFault.{SessionFault}
use Rattle.ups_session.specs.declared.fault.SessionFault.TheVariants.{Read, Write, Turns, Memory}
use Rattle.ups_session.specs.Broken.{IsBadPdu, IsLost}
use Rattle.ups_session.specs.Fold.{Side, Indication, Arrival, pdu, bad, closed, brings, Happens, Processes, IsOpen}
use Rattle.ups_session.specs.World.{World, Performed}

-- the bytes encode what arrives
abbrev pub Spells : {A : Type 0} → List ℕ → Arrival A → Type 0
Spells bytes (pdu p) = SpellsPdu bytes p
Spells {A} bytes (bad fault) = IsBadPdu A bytes fault
Spells bytes closed = bytes ≡ []

-- the bytes encode these arrivals, one after the other
abbrev pub SpellsAll : {A : Type 0} → List ℕ → List (Arrival A) → Type 0
SpellsAll bytes [] = bytes ≡ []
SpellsAll bytes (a ∷ arrivals) = (front : List ℕ) × (rest : List ℕ) × (bytes ≡ front ++ rest) × Spells front a × SpellsAll rest arrivals

-- the end of the input, if it is among these, comes last, and the reader has then met it
abbrev pub AtEnd : {A : Type 0} → Input → List (Arrival A) → Type 0
AtEnd now [] = Unit {0}
AtEnd now (closed ∷ arrivals) = (arrivals ≡ []) × HasEnded now
AtEnd now (a ∷ arrivals) = AtEnd now arrivals

-- the end of the input is not among these
abbrev pub NoEnd : {A : Type 0} → List (Arrival A) → Type 0
NoEnd [] = Unit {0}
NoEnd (closed ∷ arrivals) = ⊥
NoEnd (a ∷ arrivals) = NoEnd arrivals

-- What was read after all that arrived whole: the beginning of a PDU, at which the input ended, or a read failed, or
-- memory ran out; or an arrival whose indications were not all processed.
pub data Remainder (A : Type 0) : Type 0 where
  cut : Remainder A
  failed : Remainder A
  lost : Remainder A
  within : Arrival A → Remainder A

abbrev pub IsRemainder : {A : Type 0} → Input → List ℕ → Remainder A → Type 0
IsRemainder {A} now rest cut = (rest ≢ []) × IsFault A rest faults.Short × HasEnded now
IsRemainder {A} now rest failed = IsFault A rest faults.Short × (now.last ≡ Failed)
IsRemainder {A} now rest lost = IsLost A rest
IsRemainder now rest (within a) = Spells rest a × AtEnd now (a ∷ [])

abbrev pub brought : {A : Type 0} → Remainder A → List (Indication A)
brought (within a) = brings a
brought remainder = []

-- the fault with which a session stops at a remainder
abbrev pub Stops : {A : Type 0} → Remainder A → SessionFault → Type 0
Stops cut fault = fault ≡ Read
Stops failed fault = fault ≡ Read
Stops lost fault = fault ≡ Memory
Stops (within a) fault = (fault ≡ Write) ⊎ (fault ≡ Memory)

abbrev pub failing : SessionFault → Result (Unit {0}) SessionFault
failing fault = Err fault

-- one more arrival is read: the association is open, a turn is left, and the input has not ended
pub record GoesOn {A L W : Type 0} (side : Side A L W) (association : L) (turns : ℕ) (arrivals : List (Arrival A)) : Type 0 where
  pub going_on : IsOpen (side.state association)
  pub turn_left : length arrivals < turns
  pub unended : NoEnd arrivals

abbrev pub okay : Result (Unit {0}) SessionFault
okay = Ok tt

-- How far a session has come: what the side did first, and what then arrived whole. `input` is what was read, and
-- `rest` what was read after the last arrival that was whole.
pub record Progress {A L W : Type 0} (side : Side A L W) (start after : L) (input rest : List ℕ) (arrivals : List (Arrival A)) (old new : World A) : Type 0 where
  pub whole : List ℕ
  pub parts : input ≡ whole ++ rest
  pub spells : SpellsAll whole arrivals
  pub begun : L
  pub between : World A
  pub begins : Performed (Happens side) side.first start begun old between okay
  pub performed : Performed (Processes side) arrivals begun after between new okay

-- nothing was read, and the side did not do all that it does first
abbrev pub IsUnbegun : {A L W : Type 0} → Side A L W → L → List ℕ → World A → World A → SessionFault → Type 0
IsUnbegun {A} {L} side start input old new fault = (last : L) × (input ≡ []) × Performed (Happens side) side.first start last old new (failing fault)

-- something was read, and its indications were not all processed
abbrev pub IsBroken : {A L W : Type 0} → Side A L W → L → ℕ → Input → List ℕ → World A → World A → SessionFault → Type 0
IsBroken {A} {L} side start turns now input old new fault =
    (arrivals : List (Arrival A)) × (after : L) × (rest : List ℕ) × (remainder : Remainder A) × (between : World A) × (last : L)
    × Progress side start after input rest arrivals old between × GoesOn side after turns arrivals × IsRemainder now rest remainder × Stops remainder fault
    × Performed (Happens side) (brought remainder) after last between new (failing fault)

-- A session. It ends when the association is over, and its result is how that ended; at a Read fault the input ended
-- inside a PDU, or a read failed; and at most as many arrivals are read as there are turns. Until then all PDUs that
-- are due were sent. If a write failed, or memory ran out, only a beginning of them was sent: of what the side does
-- first, before anything was read, or of the reaction to what was read last.
abbrev pub IsSession : {A L W : Type 0} → Side A L W → (L → End) → L → ℕ → Input → List ℕ → World A → World A → Result End SessionFault → Type 0
IsSession {A} {L} side ending start turns now input old new (Ok end) =
    (arrivals : List (Arrival A)) × (after : L) × Progress side start after input [] arrivals old new × AtEnd now arrivals
    × (length arrivals ≤ turns) × (IsOpen (side.state after) → ⊥) × (ending after ≡ end)
IsSession {A} {L} side ending start turns now input old new (Err Read) =
    (arrivals : List (Arrival A)) × (after : L) × (rest : List ℕ) × (remainder : Remainder A) × Progress side start after input rest arrivals old new
    × GoesOn side after turns arrivals × IsRemainder now rest remainder × Stops remainder Read
IsSession {A} {L} side ending start turns now input old new (Err Turns) =
    (arrivals : List (Arrival A)) × (after : L) × Progress side start after input [] arrivals old new × NoEnd arrivals
    × (length arrivals ≡ turns) × IsOpen (side.state after)
IsSession {A} {L} side ending start turns now input old new (Err fault) = IsUnbegun side start input old new fault ⊎ IsBroken side start turns now input old new fault
