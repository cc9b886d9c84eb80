-- What the driver of a session needs of a side of an association.
use Rattle.std.specs.Prelude.{◌≢◌, ◌≤◌, ℕ, List, [], Option, None, Some}
use Rattle.std.specs.List.{AllByRecursion}
use Rattle.ups_ulstate.specs.declared.state.UlEvent.TheVariants.{TransportConfirmed, TransportClosed}
use Rattle.ups_pdu.specs.declared.pdu.Pdu.{Pdu}
use Rattle.ups_pdu.specs.declared.pdu.Pdu.TheVariants as pdus
use Rattle.ups_pdu.specs.Fits.{Fits}
use Rattle.ups_pdu.specs.Spelling.{SpellsPdu}
use Rattle.ups_assoc.specs.Cutting.{pieces}
use Rattle.ups_session.specs.declared.indication.UlIndication.{UlIndication}
use Rattle.ups_session.specs.declared.indication.UlIndication.TheVariants as ul_indications
use Rattle.ups_session.specs.declared.effect.Effect.{Effect}
use Rattle.ups_session.specs.declared.effect.Effect.TheVariants.{Send, Respond, Call}
use Rattle.ups_session.specs.Fold.{Indication, event, request, confirmation, invalid, Visit, Reaction, Side, Happens, IsOpen}

-- the view of an indication
abbrev pub indication_of : {A : Type 0} → UlIndication A → Indication A
indication_of (ul_indications.Event e) = event e
indication_of (ul_indications.InvalidPdu fault) = invalid fault
indication_of (ul_indications.AssociateRq rq) = request rq
indication_of (ul_indications.AssociateAc ac) = confirmation ac

-- What may come from a peer or from the transport connection: the connection is not confirmed again once it is open,
-- and a request has an encoding.
abbrev pub Comes : {A : Type 0} → Indication A → Type 0
Comes (event e) = e ≢ TransportConfirmed
Comes (request rq) = (bytes : List ℕ) × SpellsPdu bytes (pdus.AssociateRq rq)
Comes other = Unit {0}

-- nothing is sent, and a reply is awaited
abbrev pub awaiting_reply : {A L W : Type 0} → L → W → Reaction A L W
awaiting_reply association waiting = record { association = association; send = []; waiting = Some waiting }

-- the PDUs that an effect sends, and the call of the service whose reply it awaits
abbrev pub said_by : {A C : Type 0} → Effect A C → List (Pdu A)
said_by (Send said) = said.items
said_by (Respond response) = pieces response.context response.command.items None response.max
said_by (Call call) = []

abbrev pub awaited_by : {A C W : Type 0} → (C → W) → Effect A C → Option W
awaited_by call_view (Send said) = None
awaited_by call_view (Respond response) = None
awaited_by call_view (Call call) = Some (call_view call)

-- the reaction with this effect
abbrev pub reaction_with : {A L W C : Type 0} → (C → W) → L → Effect A C → Reaction A L W
reaction_with call_view association effect = record { association = association; send = said_by effect; waiting = awaited_by call_view effect }

-- each PDU that the effect sends can be written, and so can the result of its call
abbrev pub CanSend : {A C : Type 0} → (C → Type 0) → Effect A C → Type 0
CanSend can (Send said) = AllByRecursion (λ p. Fits p) said.items
CanSend can (Respond response) = 8 ≤ response.max
CanSend can (Call call) = can call

-- once the transport connection is closed, the side is no longer open
abbrev pub IsOver : {A L W : Type 0} → Side A L W → Type 0
IsOver {A} {L} side = (association after : L) (visits : List (Visit A)) → Happens side association (event TransportClosed) visits after → IsOpen (side.state after) → ⊥
