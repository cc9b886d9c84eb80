-- One fragment after another (PS3.8 annex E, PS3.7 section 6.3.1).
use Rattle.std.specs.Prelude.{◌≡◌, ◌≤◌, ◌<◌, ◌+◌, ℕ, Bool, true, false, List, [], ◌∷◌, ◌++◌, length, Option, None, Some, Result, Ok, Err, nat_le, not, ◌||◌, ◌⊎◌, ◌==◌, if◌then◌else◌}
use Rattle.std.specs.Option.{option_map}
use Rattle.ups_pdu.specs.declared.pdv.Pdv.{Pdv}
use Rattle.ups_assoc.specs.declared.fault.AssocFault.{AssocFault}
use Rattle.ups_assoc.specs.declared.fault.AssocFault.TheVariants as faults
use Rattle.ups_assoc.specs.declared.message.RawMessage.{RawMessage}
use Rattle.ups_assoc.specs.declared.assembling.Begun.{Begun}
use Rattle.ups_assoc.specs.declared.assembling.Begun.TheVariants.{Nothing, Command, Body, Failed}
use Rattle.ups_assoc.specs.declared.assembling.Taken.{Taken}
use Rattle.ups_assoc.specs.declared.assembling.Taken.TheVariants.{More, Whole}
use Rattle.ups_assoc.specs.Announcing.{data_follows}
use Rattle.ups_assoc.specs.Limits.{longest_message}
use Rattle.ups_assoc.specs.Messages.{is_accepted}

-- the effect of a fragment on the message received so far: more of it, the whole message, or a fault
pub data Fed (A : Type 0) : Type 0 where
  more : Begun A → Fed A
  whole : RawMessage A → Fed A
  fault : AssocFault → Fed A

-- the effect, if the message is not too long
abbrev pub if_short : {A : Type 0} → ℕ → Fed A → Fed A
if_short len fed = if nat_le len longest_message then fed else fault faults.TooLong

-- after the last fragment of a command the data set follows if one is announced; otherwise the message is whole
abbrev pub command_end : {A : Type 0} → ℕ → List ℕ → Bool → Fed A
command_end context bytes last =
    if last then (if data_follows bytes then more (Body context bytes []) else whole (record { context = context; command = bytes; body = None }))
    else more (Command context bytes)

-- after the last fragment of a data set the message is whole
abbrev pub body_end : {A : Type 0} → ℕ → List ℕ → List ℕ → Bool → Fed A
body_end context command bytes last =
    if last then whole (record { context = context; command = command; body = Some bytes })
    else more (Body context command bytes)

unfoldable pub with_command : {A : Type 0} → ℕ → List ℕ → Pdv A → Fed A
with_command context bytes pdv = if_short (length (bytes ++ pdv.bytes)) (command_end context (bytes ++ pdv.bytes) pdv.last)

unfoldable pub with_data : {A : Type 0} → ℕ → List ℕ → List ℕ → Pdv A → Fed A
with_data context command bytes pdv = if_short (length command + length (bytes ++ pdv.bytes)) (body_end context command (bytes ++ pdv.bytes) pdv.last)

-- the effect of a fragment on an accepted presentation context
abbrev pub fed_fragment : {A : Type 0} → Begun A → Pdv A → Fed A
fed_fragment Nothing pdv = if not pdv.command then fault faults.DataWithoutCommand else with_command pdv.context [] pdv
fed_fragment (Command context bytes) pdv =
    if not (pdv.context == context) then fault faults.MixedContext
    else if not pdv.command then fault faults.DataWithoutCommand
    else with_command context bytes pdv
fed_fragment (Body context command bytes) pdv =
    if not (pdv.context == context) || pdv.command then fault faults.MixedContext
    else with_data context command bytes pdv
fed_fragment Failed pdv = fault faults.Failed

abbrev pub has_failed : {A : Type 0} → Begun A → Bool
has_failed Nothing = false
has_failed (Command context bytes) = false
has_failed (Body context command bytes) = false
has_failed Failed = true

-- The effect of a fragment on the message received so far, given the ids of the accepted contexts: any other id is of
-- an unknown presentation context.
unfoldable pub fed : {A : Type 0} → List ℕ → Begun A → Pdv A → Fed A
fed ids begun pdv =
    if has_failed begun then fault faults.Failed
    else if not (is_accepted ids pdv.context) then fault faults.UnknownContext
    else fed_fragment begun pdv

-- the message after a fragment that is no fault
abbrev pub ReturnsFed : {A : Type 0} → Fed A → Taken A → Type 0
ReturnsFed (more b) (More begun) = begun ≡ b
ReturnsFed (more b) (Whole m) = ⊥
ReturnsFed (whole w) (More begun) = ⊥
ReturnsFed (whole w) (Whole m) = m ≡ w
ReturnsFed (fault f) t = ⊥

-- the same, or lack of memory; or the fault, if there is one
abbrev pub Takes : {A : Type 0} → Fed A → Result (Taken A) AssocFault → Type 0
Takes fed (Ok t) = ReturnsFed fed t
Takes (more b) (Err e) = e ≡ faults.Memory
Takes (whole w) (Err e) = e ≡ faults.Memory
Takes (fault f) (Err e) = e ≡ f

-- the message is too long; or memory ran out, and it is not
abbrev pub IsRefusedFragment : AssocFault → ℕ → Type 0
IsRefusedFragment e len = ((e ≡ faults.TooLong) × (longest_message < len)) ⊎ ((e ≡ faults.Memory) × (len ≤ longest_message))

-- The result of an assembler, and what has been received of the next message then. After a fault, and after memory
-- ran out, the assembler has failed.
abbrev pub Feeds : {A : Type 0} → Fed A → Begun A → Result (Option (RawMessage A)) AssocFault → Type 0
Feeds (more b) new (Ok None) = new ≡ b
Feeds (more b) new (Ok (Some m)) = ⊥
Feeds (whole w) new (Ok None) = ⊥
Feeds (whole w) new (Ok (Some m)) = (m ≡ w) × (new ≡ Nothing)
Feeds (fault f) new (Ok m) = ⊥
Feeds (fault f) new (Err e) = (e ≡ f) × (new ≡ Failed)
Feeds (more b) new (Err e) = (e ≡ faults.Memory) × (new ≡ Failed)
Feeds (whole w) new (Err e) = (e ≡ faults.Memory) × (new ≡ Failed)

-- the messages that fragments make, and what has been received of the next one in the end; None if there is a fault
abbrev pub onward : {A : Type 0} → (Begun A → Option (List (RawMessage A) × Begun A)) → Fed A → Option (List (RawMessage A) × Begun A)
onward on (more b) = on b
onward on (whole w) = option_map (λ r. (w ∷ r.0, r.1)) (on Nothing)
onward on (fault f) = None

abbrev pub feeds : {A : Type 0} → List ℕ → List (Pdv A) → Begun A → Option (List (RawMessage A) × Begun A)
feeds ids [] begun = Some ([], begun)
feeds ids (p ∷ ps) begun = onward (feeds ids ps) (fed ids begun p)
