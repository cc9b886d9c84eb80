-- What a message asks, given the bytes of its data set (PS3.7 annex C, PS3.4 section C.4.1.1.4).
use Rattle.std.specs.Prelude.{◌≡◌, ◌⊎◌, ℕ, ℤ, List, Result, Err}
use Rattle.ups_dataset.specs.declared.fault.SetFault.{SetFault}
use Rattle.ups_dataset.specs.declared.fault.SetFault.TheVariants as faults
use Rattle.ups_pdu.specs.declared.syntax.TransferSyntax.TheVariants.{Explicit}
use Rattle.ups_dataset.specs.Data.{El}
use Rattle.ups_dataset.specs.Spelling.{SpellsSet}
use Rattle.ups_dimse.specs.declared.command.Operation.{Operation}
use Rattle.ups_dimse.specs.declared.command.Operation.TheVariants as operations
use Rattle.ups_life.specs.declared.request.Ask.{Ask}
use Rattle.ups_cycle.specs.declared.status.Status.{Status}
use Rattle.ups_cycle.specs.declared.status.Status.TheVariants.{ProcessingFailure, UnableToProcess}
use Rattle.ups_life.specs.Asking.{asked}
use Rattle.ups_requests.specs.declared.meaning.Unasked.{Unasked}
use Rattle.ups_requests.specs.declared.meaning.Unasked.TheVariants.{Refused, Memory}

-- the status of a message whose data set can't be read; a C-FIND has a status of its own
abbrev pub unread : {A : Type 0} → Operation A → Status
unread (operations.Find priority) = UnableToProcess
unread operation = ProcessingFailure

-- A message asks something, or is refused with a status: because of the data set that its bytes encode in Explicit VR Little
-- Endian (PS3.5 annex A.2), or because they encode none. The offset is that of the local time from UTC, in minutes.
abbrev pub Asks : {A : Type 0} → ℤ → Operation A → List ℕ → Result (Ask A) Status → Type 0
Asks offset operation bytes meaning =
    ((set : List El) × SpellsSet Explicit bytes set × (meaning ≡ asked offset operation set))
    ⊎ (((set : List El) → SpellsSet Explicit bytes set → ⊥) × (meaning ≡ Err (unread operation)))

-- why nothing is asked: the message is refused; or memory ran out, in which case its bytes encode a data set
abbrev pub IsUnasked : {A : Type 0} → ℤ → Operation A → List ℕ → Unasked → Type 0
IsUnasked offset operation bytes (Refused status) = Asks offset operation bytes (Err status)
IsUnasked offset operation bytes Memory = (set : List El) × SpellsSet Explicit bytes set

-- why nothing is asked by a message, given the fault in reading its data set
abbrev pub without_set : {A : Type 0} → Operation A → SetFault → Unasked
without_set operation faults.Memory = Memory
without_set operation fault = Refused (unread operation)
