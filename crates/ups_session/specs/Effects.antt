-- The views of the program's types: an association, an effect, the outcome of a request.
use Rattle.std.specs.Prelude.{◌≡◌, ◌≤◌, Option, None, Some, is_some, true}
use Rattle.std.specs.Option.{option_map}
use Rattle.ups_pdu.specs.declared.pdu.Pdu.TheVariants.{AssociateAc}
use Rattle.ups_pdu.specs.Fits.{Fits}
use Rattle.ups_assoc.specs.declared.negotiating.Outcome.{Outcome}
use Rattle.ups_assoc.specs.declared.negotiating.Outcome.TheVariants.{Accept, Reject}
use Rattle.ups_life.specs.declared.request.Ask.{Ask}
use Rattle.ups_life.specs.declared.request.Ask.TheVariants.{Pending}
use Rattle.ups_session.specs.declared.dispatch.Dispatch.{Dispatch}
use Rattle.ups_session.specs.declared.dispatch.Dispatch.TheVariants.{Answer, Question}
use Rattle.ups_session.specs.declared.effect.Effect.{Effect}
use Rattle.ups_session.specs.declared.effect.AwaitedParts.{AwaitedParts}
use Rattle.ups_session.specs.declared.effect.AwaitedRequest.{AwaitedRequest}
use Rattle.ups_session.specs.declared.association.Established.{Established}
use Rattle.ups_session.specs.declared.association.Association.{Association}
use Rattle.ups_session.specs.declared.association.Parameters.{Parameters}
use Rattle.ups_session.specs.Association.{ParametersView, EstablishedView, AssociationView}
use Rattle.ups_session.specs.Dispatch.{DispatchView, answered_at_once, asking, AwaitedRequestView}
use Rattle.ups_session.specs.Acceptor.{MessageEffect}
use Rattle.ups_session.specs.Party.{said_by, awaited_by, reaction_with, CanSend}
use Rattle.ups_session.specs.Sides.{ReactionOf}

-- the views of the negotiated parameters, the established association, and the association
abbrev pub parameters_view : {A : Type 0} → Parameters A → ParametersView
parameters_view parameters = record { ae = parameters.ae; contexts = parameters.contexts; max = parameters.max }

abbrev pub established_view : {A : Type 0} → Established A → EstablishedView A
established_view established = record { parameters = parameters_view established.parameters; assembler = established.assembler }

abbrev pub association_view : {A : Type 0} → Association A → AssociationView A
association_view association = record { state = association.state; established = option_map established_view association.established; ending = association.ending }

-- the view of the outcome of a request
abbrev pub dispatch_view : {A : Type 0} → Dispatch A → DispatchView A
dispatch_view (Answer status) = answered_at_once status
dispatch_view (Question ask) = asking ask

-- the ask in its option, which it is always in (`HasRoom`)
abbrev pub ask_in : {A : Type 0} → Option (Ask A) → Ask A
ask_in None = Pending 0
ask_in (Some ask) = ask

-- the view of a request whose reply is awaited
abbrev pub parts_view : {A : Type 0} → AwaitedParts A → AwaitedRequestView A
parts_view parts = record { ae = parts.ae; ask = ask_in parts.ask; max = parts.max; context = parts.context; command = parts.command }

abbrev pub awaited_view : {A : Type 0} → AwaitedRequest A → AwaitedRequestView A
awaited_view w = parts_view w.parts.value

-- the reaction of a session with this effect
abbrev pub reaction_of : {A : Type 0} → AssociationView A → Effect A (AwaitedRequest A) → ReactionOf A
reaction_of association effect = reaction_with awaited_view association effect

-- the effect of a message; None if the association is aborted
abbrev pub message_effect : {A : Type 0} → Option (Effect A (AwaitedRequest A)) → MessageEffect A
message_effect None = None
message_effect (Some effect) = Some (said_by effect, awaited_by awaited_view effect)

-- the response to a request can be written, since the maximum length is at least 8 bytes, and the request is there
abbrev pub HasRoom : {A : Type 0} → AwaitedRequest A → Type 0
HasRoom waiting = (8 ≤ waiting.parts.value.max) × (is_some waiting.parts.value.ask ≡ true)

-- each PDU that the effect sends, or will send, can be written
abbrev pub IsSendable : {A : Type 0} → Effect A (AwaitedRequest A) → Type 0
IsSendable effect = CanSend HasRoom effect

abbrev pub AreSendable : {A : Type 0} → Option (Effect A (AwaitedRequest A)) → Type 0
AreSendable None = Unit {0}
AreSendable (Some effect) = IsSendable effect

-- the peer's maximum length is at least 8 bytes, if the association is established
abbrev pub IsRoomy : {A : Type 0} → Option (Established A) → Type 0
IsRoomy None = Unit {0}
IsRoomy (Some established) = 8 ≤ established.parameters.max

-- an acceptance can be written, and the peer's maximum length is at least 8 bytes
abbrev pub IsAccepting : {A : Type 0} → Outcome A → Type 0
IsAccepting (Accept a) = Fits (AssociateAc a.ac) × (8 ≤ a.max)
IsAccepting (Reject r) = Unit {0}
