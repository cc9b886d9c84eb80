-- The accepting side of an association (PS3.8 section 9.2).
use Rattle.std.specs.Prelude.{◌≡◌, ◌⊎◌, ℕ, ℤ, Bool, true, false, not, ◌==◌, List, [], ◌∷◌, Option, None, Some, if◌then◌else◌}
use Rattle.ups_ulstate.specs.declared.state.UlState.{UlState}
use Rattle.ups_ulstate.specs.declared.state.UlState.TheVariants.{Sta2}
use Rattle.ups_ulstate.specs.declared.state.UlEvent.TheVariants as events
use Rattle.ups_ulstate.specs.declared.state.UlAction.{UlAction}
use Rattle.ups_ulstate.specs.declared.state.UlAction.TheVariants.{Ae6, Dt2}
use Rattle.ups_ulstate.specs.Table.{next_of}
use Rattle.ups_pdu.specs.declared.pdu.Pdu.{Pdu}
use Rattle.ups_pdu.specs.declared.pdu.Pdu.TheVariants.{AssociateAc, AssociateRj}
use Rattle.ups_pdu.specs.declared.pdv.Pdv.{Pdv}
use Rattle.ups_dimse.specs.declared.command.Command.{Command}
use Rattle.ups_dimse.specs.declared.command.Command.TheVariants.{Request, Response, Cancel}
use Rattle.ups_dimse.specs.declared.command.RequestCommand.{RequestCommand}
use Rattle.ups_dimse.specs.Commands.{SpellsCommand}
use Rattle.ups_assoc.specs.declared.negotiating.AcceptedContext.{AcceptedContext}
use Rattle.ups_assoc.specs.declared.negotiating.Config.{Config}
use Rattle.ups_assoc.specs.declared.negotiating.Acceptance.{Acceptance}
use Rattle.ups_assoc.specs.declared.negotiating.Outcome.{Outcome}
use Rattle.ups_assoc.specs.declared.negotiating.Outcome.TheVariants.{Accept, Reject}
use Rattle.ups_assoc.specs.declared.negotiating.Rejection.{Rejection}
use Rattle.ups_assoc.specs.declared.message.RawMessage.{RawMessage}
use Rattle.ups_assoc.specs.declared.assembling.Begun.TheVariants.{Nothing, Failed}
use Rattle.ups_assoc.specs.Negotiation.{outcome, number_result, number_source, number_reason}
use Rattle.ups_assoc.specs.Feeding.{Fed, more, whole, fault, fed}
use Rattle.ups_life.specs.declared.request.Reply.{Reply}
use Rattle.ups_life.specs.declared.request.Reply.TheVariants.{Status as Replied}
use Rattle.ups_session.specs.declared.fault.End.{End}
use Rattle.ups_session.specs.declared.fault.End.TheVariants.{Closed, Rejected}
use Rattle.ups_session.specs.Association.{ParametersView, EstablishedView, AssociationView}
use Rattle.ups_session.specs.Dispatch.{DispatchView, answered_at_once, asking, AwaitedRequestView}
use Rattle.ups_session.specs.Fold.{Indication, event, request, confirmation, presentation_data, invalid, Side}
use Rattle.ups_session.specs.Rules.{Dispatches}
use Rattle.ups_session.specs.Sides.{ReactionOf, sending, transition, on_local_event, on_action, on_event, unexpected, reason_of, ids, aborting, with_begun, context_at}
use Rattle.ups_session.specs.Responses.{response}

-- whether the state table takes a request as acceptable: only a rejection by the service provider, which comes first,
-- makes it unacceptable (PS3.8 table 9-6)
abbrev pub is_acceptable : {A : Type 0} → Outcome A → Bool
is_acceptable (Accept acceptance) = true
is_acceptable (Reject rejection) = not (number_source rejection == 2)

abbrev pub rejecting : {A : Type 0} → Rejection → Pdu A
rejecting rejection = AssociateRj (number_result rejection) (number_source rejection) (number_reason rejection)

abbrev pub ended : {A : Type 0} → End → AssociationView A → AssociationView A
ended end association = record { state = association.state; established = association.established; ending = end }

abbrev pub agreeing : {A : Type 0} → Acceptance A → AssociationView A → AssociationView A
agreeing a association = record { state = association.state; established = Some (record { parameters = record { ae = a.ae; contexts = a.contexts; max = a.max }; assembler = record { ids = ids a.contexts; begun = Nothing } }); ending = association.ending }

-- an association request is accepted or rejected at once (PS3.8 section 7.1)
abbrev pub answers : {A : Type 0} → Bool → AssociationView A → Outcome A → ReactionOf A
answers requestor association (Accept a) = sending (agreeing a (on_local_event requestor events.LocalAccept association)) (AssociateAc a.ac ∷ [])
answers requestor association (Reject r) = sending (if is_acceptable {A = Unit {0}} (Reject r) then on_local_event requestor events.LocalReject association else ended Rejected association) (rejecting r ∷ [])

abbrev pub requested_at : {A : Type 0} → Bool → AssociationView A → Outcome A → Option (UlAction × UlState) → ReactionOf A
requested_at requestor association o None = sending association []
requested_at requestor association o (Some (Ae6, state)) = answers requestor (transition association events.AssociateRq Ae6 state) o
requested_at requestor association o (Some (action, state)) = on_action requestor unexpected (transition association events.AssociateRq action state) action

abbrev pub requested : {A : Type 0} → Bool → AssociationView A → Outcome A → ReactionOf A
requested requestor association o = requested_at requestor association o (next_of requestor (is_acceptable o) events.AssociateRq association.state)

-- the effect of a message: PDUs are sent, or a reply is awaited; None if the association is aborted
abbrev pub MessageEffect : Type 0 → Type 0
MessageEffect A = Option (List (Pdu A) × Option (AwaitedRequestView A))

abbrev pub on_message_effect : {A : Type 0} → Bool → AssociationView A → MessageEffect A → ReactionOf A
on_message_effect requestor association None = aborting requestor association
on_message_effect requestor association (Some (send, waiting)) = record { association = association; send = send; waiting = waiting }

-- a request is answered at once, or its reply is awaited
abbrev pub message_effect_of : {A : Type 0} → ParametersView → AcceptedContext → RequestCommand A → DispatchView A → MessageEffect A
message_effect_of parameters context command (answered_at_once status) = Some (response parameters.max context command (Replied status), None)
message_effect_of parameters context command (asking ask) = Some ([], Some (record { ae = parameters.ae; ask = ask; max = parameters.max; context = context; command = command }))

-- A response that was not asked for is ignored; and so is a C-CANCEL, since each C-FIND is answered completely before
-- anything else is read (PS3.7 section 9.3.2.3).
abbrev pub OnCommand : {A : Type 0} → ℤ → ParametersView → Option AcceptedContext → Option (List ℕ) → Command A → MessageEffect A → Type 0
OnCommand offset parameters context body (Response response) h = h ≡ Some ([], None)
OnCommand offset parameters context body (Cancel cancel) h = h ≡ Some ([], None)
OnCommand offset parameters None body (Request command) h = h ≡ None
OnCommand {A} offset parameters (Some context) body (Request command) h =
    (dispatch_view : DispatchView A) × Dispatches offset context command body dispatch_view × (h ≡ message_effect_of parameters context command dispatch_view)

-- a whole message; if its command set can't be read, the association is aborted
abbrev pub OnMessage : {A : Type 0} → ℤ → ParametersView → RawMessage A → MessageEffect A → Type 0
OnMessage {A} offset parameters message h =
    ((command : Command A) × SpellsCommand message.command command × OnCommand offset parameters (context_at message.context parameters.contexts) message.body command h)
    ⊎ (((command : Command A) → SpellsCommand message.command command → ⊥) × (h ≡ None))

-- a fragment: a message goes on, or is whole; or it is a fault, and the association is aborted
abbrev pub Continues : {A : Type 0} → Bool → ℤ → AssociationView A → EstablishedView A → Fed A → ReactionOf A → Type 0
Continues requestor offset association established (more begun) reaction = reaction ≡ sending (with_begun association established begun) []
Continues {A} requestor offset association established (whole message) reaction = (h : MessageEffect A) × OnMessage offset established.parameters message h × (reaction ≡ on_message_effect requestor (with_begun association established Nothing) h)
Continues requestor offset association established (fault why) reaction = reaction ≡ aborting requestor (with_begun association established Failed)

abbrev pub Received : {A : Type 0} → Bool → ℤ → AssociationView A → Option (EstablishedView A) → Pdv A → ReactionOf A → Type 0
Received requestor offset association None pdv reaction = reaction ≡ sending association []
Received requestor offset association (Some established) pdv reaction = Continues requestor offset association established (fed established.assembler.ids established.assembler.begun pdv) reaction

abbrev pub Indicated : {A : Type 0} → Bool → ℤ → AssociationView A → Pdv A → Option (UlAction × UlState) → ReactionOf A → Type 0
Indicated requestor offset association pdv None reaction = reaction ≡ sending association []
Indicated requestor offset association pdv (Some (Dt2, state)) reaction = Received requestor offset (transition association events.Data Dt2 state) association.established pdv reaction
Indicated requestor offset association pdv (Some (action, state)) reaction = reaction ≡ on_action requestor unexpected (transition association events.Data action state) action

-- The reaction to each indication, of the requestor or the acceptor of the association, given the title of this
-- application entity and the offset of its local time from UTC in minutes.
abbrev pub Reacts : {A : Type 0} → Bool → Config → AssociationView A → Indication A → ReactionOf A → Type 0
Reacts requestor config association (event e) reaction = reaction ≡ on_event requestor unexpected association e (next_of requestor true e association.state)
Reacts requestor config association (request rq) reaction = reaction ≡ requested requestor association (outcome config.ae rq)
Reacts requestor config association (confirmation ac) reaction = reaction ≡ on_event requestor unexpected association events.AssociateAc (next_of requestor true events.AssociateAc association.state)
Reacts requestor config association (presentation_data pdv) reaction = Indicated requestor config.offset association pdv (next_of requestor true events.Data association.state) reaction
Reacts requestor config association (invalid f) reaction = reaction ≡ on_event requestor (reason_of f) association events.Invalid (next_of requestor true events.Invalid association.state)

-- the reply of the service is sent as the response to the request
abbrev pub IsAnsweredBy : {A : Type 0} → AssociationView A → AwaitedRequestView A → Reply A → ReactionOf A → Type 0
IsAnsweredBy association w reply reaction = reaction ≡ sending association (response w.max w.context w.command reply)

-- the side that accepts an association: it does nothing until something arrives
abbrev pub acceptor : {A : Type 0} → Config → Side A (AssociationView A) (AwaitedRequestView A)
acceptor config = record { state = λ association. association.state; first = []; Reacts = Reacts false config; asked = λ w. record { ae = w.ae; ask = w.ask }; OnReply = IsAnsweredBy }

-- a transport connection is open, and an A-ASSOCIATE-RQ is awaited
abbrev pub opened : {A : Type 0} → AssociationView A
opened = record { state = Sta2; established = None; ending = Closed }
