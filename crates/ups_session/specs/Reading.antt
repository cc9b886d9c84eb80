-- The outcome of reading one PDU (PS3.8 section 9.3.1).
use Rattle.std.specs.Prelude.{◌≡◌, ◌≢◌, ℕ, List, [], Result, Ok, Err}
use Rattle.ups_session.specs.WatchedIo.{Input, HasEnded}
use Rattle.ups_session.specs.declared.watched_io.LastRead.TheVariants.{Failed}
use Rattle.ups_pdu.specs.declared.fault.PduFault.TheVariants as faults
use Rattle.ups_pdu.specs.declared.kind.PduKind.{PduKind}
use Rattle.ups_pdu.specs.Header.{HeaderFails, IsWhole}
use Rattle.ups_session.specs.declared.fault.SessionFault.{SessionFault}
use Rattle.ups_session.specs.declared.fault.SessionFault.TheVariants.{Memory}
use Rattle.ups_session.specs.Broken.{IsBadPdu, IsLost}
use Rattle.ups_session.specs.declared.pdu_io.PduRead.{PduRead}
use Rattle.ups_session.specs.declared.pdu_io.PduRead.TheVariants as reads

-- the bytes are those of a PDU, as its header announces them
abbrev pub IsComplete : List ℕ → Type 0
IsComplete input = (kind : PduKind) × (body : List ℕ) × IsWhole input kind body []

-- Nothing came, at the end of the input; or the input ended inside a PDU; or a read failed before its end. `now` is the
-- state of the reader afterwards.
abbrev pub IsCutOff : Input → List ℕ → PduRead → Type 0
IsCutOff now input reads.Whole = ⊥
IsCutOff now input (reads.Bad fault) = ⊥
IsCutOff now input reads.Closed = (input ≡ []) × HasEnded now
IsCutOff now input reads.Cut = (input ≢ []) × HeaderFails input faults.Short × HasEnded now
IsCutOff now input reads.Failed = HeaderFails input faults.Short × (now.last ≡ Failed)

-- The bytes of a PDU were read, and `bytes` are these; or bytes that are no PDU; or no whole PDU came; or memory ran
-- out. `now` is the state of the reader afterwards.
abbrev pub IsRead : Type 0 → Input → List ℕ → List ℕ → Result PduRead SessionFault → Type 0
IsRead A now input bytes (Ok reads.Whole) = (bytes ≡ input) × IsComplete input
IsRead A now input bytes (Ok (reads.Bad fault)) = IsBadPdu A input fault
IsRead A now input bytes (Ok reads.Closed) = IsCutOff now input reads.Closed
IsRead A now input bytes (Ok reads.Cut) = IsCutOff now input reads.Cut
IsRead A now input bytes (Ok reads.Failed) = IsCutOff now input reads.Failed
IsRead A now input bytes (Err fault) = (fault ≡ Memory) × IsLost A input
