-- The side that requests an association and sends event reports over it (PS3.4 CC.2.4, PS3.8 section 9.2).
use Rattle.std.specs.Prelude.{◌≡◌, ◌⊎◌, ℕ, ◌+◌, Bool, true, false, ◌&&◌, ◌==◌, List, [], ◌∷◌, Option, None, Some, if◌then◌else◌}
use Rattle.ups_ulstate.specs.declared.state.UlState.{UlState}
use Rattle.ups_ulstate.specs.declared.state.UlState.TheVariants.{Sta1, Sta5}
use Rattle.ups_ulstate.specs.declared.state.UlEvent.TheVariants as events
use Rattle.ups_ulstate.specs.declared.state.UlAction.{UlAction}
use Rattle.ups_ulstate.specs.declared.state.UlAction.TheVariants.{Ae3, Ar6, Dt2}
use Rattle.ups_ulstate.specs.Table.{next_of}
use Rattle.ups_pdu.specs.declared.associate.AssociateAc.{AssociateAc}
use Rattle.ups_pdu.specs.declared.pdu.Pdu.{Pdu}
use Rattle.ups_pdu.specs.declared.pdu.Pdu.TheVariants.{AssociateRq}
use Rattle.ups_pdu.specs.declared.pdv.Pdv.{Pdv}
use Rattle.ups_pdu.specs.declared.syntax.TransferSyntax.{TransferSyntax}
use Rattle.ups_dimse.specs.declared.command.Command.{Command}
use Rattle.ups_dimse.specs.declared.command.Command.TheVariants.{Request, Response, Cancel}
use Rattle.ups_dimse.specs.declared.command.OperationResult.{OperationResult}
use Rattle.ups_dimse.specs.declared.command.OperationResult.TheVariants as results
use Rattle.ups_dimse.specs.declared.command.RequestCommand.{RequestCommand}
use Rattle.ups_dimse.specs.declared.command.ResponseCommand.{ResponseCommand}
use Rattle.ups_dimse.specs.Commands.{SpellsCommand}
use Rattle.ups_assoc.specs.declared.assembling.Begun.TheVariants.{Nothing, Failed}
use Rattle.ups_assoc.specs.declared.message.RawMessage.{RawMessage}
use Rattle.ups_assoc.specs.declared.negotiating.Config.{Config}
use Rattle.ups_assoc.specs.Feeding.{Fed, more, whole, fault, fed}
use Rattle.ups_assoc.specs.Negotiation.{counted}
use Rattle.ups_life.specs.declared.event_reports.EventReport.{EventReport}
use Rattle.ups_life.specs.declared.request.Ask.{Ask}
use Rattle.ups_life.specs.declared.request.Ask.TheVariants.{Do, Pending}
use Rattle.ups_life.specs.declared.request.Reply.{Reply}
use Rattle.ups_life.specs.declared.request.Reply.TheVariants.{Status as Told, Reports}
use Rattle.ups_life.specs.declared.request.Request.TheVariants.{Ack}
use Rattle.ups_cycle.specs.declared.status.Status.TheVariants.{ResourceLimitation, UnrecognizedOperation}
use Rattle.ups_session.specs.declared.delivery.ReportInFlight.{ReportInFlight}
use Rattle.ups_session.specs.declared.delivery.Route.{Route}
use Rattle.ups_session.specs.declared.delivery.DeliveryCall.{DeliveryCall}
use Rattle.ups_session.specs.declared.delivery.DeliveryCall.TheVariants.{Pendings, Acknowledgement}
use Rattle.ups_session.specs.declared.fault.End.TheVariants.{Closed}
use Rattle.ups_session.specs.Association.{EstablishedView, AssociationView}
use Rattle.ups_session.specs.Delivery.{DeliveryView}
use Rattle.ups_session.specs.Fold.{Indication, event, request, confirmation, presentation_data, invalid, Reaction, Side}
use Rattle.ups_session.specs.Proposing.{association_request, agreement, accepted_event_context}
use Rattle.ups_session.specs.Reports.{route_of, report_pdus}
use Rattle.ups_session.specs.Responses.{bare_response}
use Rattle.ups_session.specs.Sides.{ReactionOf, transition, on_action, on_event, unexpected, reason_of, ids, aborting, with_begun}

abbrev pub DeliveryReaction : Type 0 → Type 0
DeliveryReaction A = Reaction A (DeliveryView A) DeliveryCall

abbrev pub saying : {A : Type 0} → DeliveryView A → List (Pdu A) → DeliveryReaction A
saying d said = record { association = d; send = said; waiting = None }

abbrev pub awaiting : {A : Type 0} → DeliveryView A → DeliveryCall → DeliveryReaction A
awaiting d call = record { association = d; send = []; waiting = Some call }

abbrev pub with_association : {A : Type 0} → DeliveryView A → AssociationView A → DeliveryView A
with_association d association = record { association = association; ahead = d.ahead; in_flight = d.in_flight; sent = d.sent }

-- the reaction of the association alone, with the delivery unchanged
abbrev pub along : {A : Type 0} → DeliveryView A → ReactionOf A → DeliveryReaction A
along d reaction = saying (with_association d reaction.association) reaction.send

-- the association is released (PS3.8 section 7.2)
abbrev pub releasing : {A : Type 0} → DeliveryView A → DeliveryReaction A
releasing d = along d (on_event true unexpected d.association events.ReleaseRequest (next_of true true events.ReleaseRequest d.association.state))

-- THE REPORTS

-- after a report is sent, it is in flight until its response comes
abbrev pub with_flight : {A : Type 0} → DeliveryView A → List (EventReport A) → ReportInFlight → DeliveryView A
with_flight d rest flight = record { association = d.association; ahead = rest; in_flight = Some flight; sent = d.sent + 1 }

-- a report is sent as a message of its own: the messages are numbered from 1; without a route the association is
-- released
abbrev pub reporting : {A : Type 0} → DeliveryView A → EventReport A → List (EventReport A) → Option Route → DeliveryReaction A
reporting d report rest None = releasing d
reporting d report rest (Some route) = saying (with_flight d rest (record { message = d.sent + 1; event = report.event.number })) (report_pdus route (d.sent + 1) report)

-- the next report is sent; after the last one the service is asked again for pending events
abbrev pub reporting_next : {A : Type 0} → DeliveryView A → List (EventReport A) → DeliveryReaction A
reporting_next d [] = awaiting d Pendings
reporting_next d (report ∷ rest) = reporting d report rest (route_of d.association.established)

-- a message ID has 16 bits: no more messages than this are sent over one association (PS3.7 section 10.3.1)
abbrev pub most_messages : ℕ
most_messages = 65535

abbrev pub proceeding : {A : Type 0} → DeliveryView A → DeliveryReaction A
proceeding d = if d.sent == most_messages then releasing d else reporting_next d d.ahead

-- WHAT IS ASKED

abbrev pub with_ahead : {A : Type 0} → DeliveryView A → List (EventReport A) → DeliveryView A
with_ahead d reports = record { association = d.association; ahead = reports; in_flight = d.in_flight; sent = d.sent }

-- pending events are reported; if there are none, or the service tells of none, the association is released
abbrev pub on_pendings : {A : Type 0} → DeliveryView A → Reply A → DeliveryReaction A
on_pendings d (Reports (report ∷ rest)) = proceeding (with_ahead d (report ∷ rest))
on_pendings d reply = releasing d

-- the delivery goes on after an acknowledgement, even one that was in vain, unless it was refused for lack of
-- resources
abbrev pub on_acknowledged : {A : Type 0} → DeliveryView A → Reply A → DeliveryReaction A
on_acknowledged d (Told ResourceLimitation) = releasing d
on_acknowledged d reply = proceeding d

abbrev pub on_reply : {A : Type 0} → DeliveryView A → DeliveryCall → Reply A → DeliveryReaction A
on_reply d Pendings reply = on_pendings d reply
on_reply d (Acknowledgement upto) reply = on_acknowledged d reply

-- the number of events that are asked for at a time
abbrev pub events_asked_for : ℕ
events_asked_for = 16

abbrev pub ask_of : {A : Type 0} → DeliveryCall → Ask A
ask_of Pendings = Pending events_asked_for
ask_of (Acknowledgement upto) = Do (Ack upto)

-- THE MESSAGES OF THE PEER

abbrev pub is_report_result : OperationResult → Bool
is_report_result (results.EventReport instance kind) = true
is_report_result result = false

-- the event of the report in flight, if this is the response to it, whatever its status
abbrev pub event_answered : Option ReportInFlight → ResponseCommand → Option ℕ
event_answered None response = None
event_answered (Some flight) response = if is_report_result response.result && (response.responded_to == flight.message) then Some flight.event else None

abbrev pub without_flight : {A : Type 0} → DeliveryView A → DeliveryView A
without_flight d = record { association = d.association; ahead = d.ahead; in_flight = None; sent = d.sent }

-- the response to the report in flight is passed to the service; any other response is ignored
abbrev pub on_response : {A : Type 0} → DeliveryView A → Option ℕ → DeliveryReaction A
on_response d None = saying d []
on_response d (Some number) = awaiting (without_flight d) (Acknowledgement number)

-- a request to this side is refused as an unrecognized operation; without a route the association is aborted
abbrev pub refusing : {A : Type 0} → DeliveryView A → RequestCommand A → Option Route → DeliveryReaction A
refusing d command None = along d (aborting true d.association)
refusing d command (Some route) = saying d (bare_response route.max route.context command UnrecognizedOperation)

-- a command set; once the release was requested, nothing is answered (PS3.8 section 9.2, AR-6)
abbrev pub on_command : {A : Type 0} → DeliveryView A → Bool → Command A → DeliveryReaction A
on_command d true command = saying d []
on_command d false (Response response) = on_response d (event_answered d.in_flight response)
on_command d false (Cancel cancel) = saying d []
on_command d false (Request command) = refusing d command (route_of d.association.established)

-- a whole message; if its command set can't be read, the association is aborted
abbrev pub Understands : {A : Type 0} → DeliveryView A → Bool → RawMessage A → DeliveryReaction A → Type 0
Understands {A} d released message reaction =
    ((command : Command A) × SpellsCommand message.command command × (reaction ≡ on_command d released command))
    ⊎ (((command : Command A) → SpellsCommand message.command command → ⊥) × (reaction ≡ along d (aborting true d.association)))

-- a fragment: a message goes on, or is whole; or it is a fault, and the association is aborted
abbrev pub Assembles : {A : Type 0} → DeliveryView A → EstablishedView A → Bool → Fed A → DeliveryReaction A → Type 0
Assembles d established released (more begun) reaction = reaction ≡ saying (with_association d (with_begun d.association established begun)) []
Assembles d established released (whole message) reaction = Understands (with_association d (with_begun d.association established Nothing)) released message reaction
Assembles d established released (fault why) reaction = reaction ≡ along d (aborting true (with_begun d.association established Failed))

-- If nothing is established, each fragment is on a presentation context that was not accepted, and the association is
-- aborted, as on any such fragment (PS3.8 section 9.3.5.1, annex D).
abbrev pub Receives : {A : Type 0} → DeliveryView A → Option (EstablishedView A) → Bool → Pdv A → DeliveryReaction A → Type 0
Receives d None released pdv reaction = reaction ≡ along d (aborting true d.association)
Receives d (Some established) released pdv reaction = Assembles d established released (fed established.assembler.ids established.assembler.begun pdv) reaction

abbrev pub OnFragment : {A : Type 0} → DeliveryView A → Pdv A → Option (UlAction × UlState) → DeliveryReaction A → Type 0
OnFragment d pdv None reaction = reaction ≡ saying d []
OnFragment d pdv (Some (Dt2, state)) reaction = Receives (with_association d (transition d.association events.Data Dt2 state)) d.association.established false pdv reaction
OnFragment d pdv (Some (Ar6, state)) reaction = Receives (with_association d (transition d.association events.Data Ar6 state)) d.association.established true pdv reaction
OnFragment d pdv (Some (action, state)) reaction = reaction ≡ along d (on_action true unexpected (transition d.association events.Data action state) action)

-- THE ASSOCIATION

-- the association that an answer establishes: with the AE title of the peer, and the longest P-DATA-TF that it
-- receives
abbrev pub established_by : {A : Type 0} → List ℕ → ℕ → TransferSyntax → EstablishedView A
established_by ae max syntax = record {
  parameters = record { ae = ae; contexts = accepted_event_context syntax ∷ []; max = max };
  assembler = record { ids = ids (accepted_event_context syntax ∷ []); begun = Nothing };
}

abbrev pub with_established : {A : Type 0} → AssociationView A → EstablishedView A → AssociationView A
with_established association established = record { state = association.state; established = Some established; ending = association.ending }

-- the association was accepted: the service is asked for pending events; if the presentation context was not
-- accepted, the association is released
abbrev pub on_agreement : {A : Type 0} → List ℕ → DeliveryView A → AssociateAc A → Option TransferSyntax → DeliveryReaction A
on_agreement ae d ac None = releasing d
on_agreement ae d ac (Some syntax) = awaiting (with_association d (with_established d.association (established_by ae (counted ac.user_information.maximum_length) syntax))) Pendings

abbrev pub on_answer : {A : Type 0} → List ℕ → DeliveryView A → AssociateAc A → Option (UlAction × UlState) → DeliveryReaction A
on_answer ae d ac None = saying d []
on_answer ae d ac (Some (Ae3, state)) = on_agreement ae (with_association d (transition d.association events.AssociateAc Ae3 state)) ac (agreement ac)
on_answer ae d ac (Some (action, state)) = along d (on_action true unexpected (transition d.association events.AssociateAc action state) action)

-- the transport connection is open, and the association is requested (PS3.8 table 9-6, AE-2)
abbrev pub proposing : {A : Type 0} → List ℕ → List ℕ → DeliveryView A → Option (UlAction × UlState) → DeliveryReaction A
proposing calling called d None = saying d []
proposing calling called d (Some cell) = saying (with_association d (transition d.association events.TransportConfirmed cell.0 cell.1)) (AssociateRq (association_request calling called) ∷ [])

-- the reaction to each indication, given the AE title of the peer
abbrev pub Delivers : {A : Type 0} → Config → List ℕ → DeliveryView A → Indication A → DeliveryReaction A → Type 0
Delivers config ae d (event events.TransportConfirmed) reaction = reaction ≡ proposing config.ae ae d (next_of true true events.TransportConfirmed d.association.state)
Delivers config ae d (event e) reaction = reaction ≡ along d (on_event true unexpected d.association e (next_of true true e d.association.state))
Delivers config ae d (request rq) reaction = reaction ≡ along d (on_event true unexpected d.association events.AssociateRq (next_of true true events.AssociateRq d.association.state))
Delivers config ae d (confirmation ac) reaction = reaction ≡ on_answer ae d ac (next_of true true events.AssociateAc d.association.state)
Delivers config ae d (presentation_data pdv) reaction = OnFragment d pdv (next_of true true events.Data d.association.state) reaction
Delivers config ae d (invalid f) reaction = reaction ≡ along d (on_event true (reason_of f) d.association events.Invalid (next_of true true events.Invalid d.association.state))

abbrev pub GoesOnByReply : {A : Type 0} → DeliveryView A → DeliveryCall → Reply A → DeliveryReaction A → Type 0
GoesOnByReply d call reply reaction = reaction ≡ on_reply d call reply

-- the side that requests an association with a peer: it connects, and sends the A-ASSOCIATE-RQ
abbrev pub requestor : {A : Type 0} → Config → List ℕ → Side A (DeliveryView A) DeliveryCall
requestor config ae = record {
  state = λ d. d.association.state;
  first = event events.AssociateRequest ∷ event events.TransportConfirmed ∷ [];
  Reacts = Delivers config ae;
  asked = λ call. record { ae = ae; ask = ask_of call };
  OnReply = GoesOnByReply;
}

-- there is no transport connection yet
abbrev pub unconnected : {A : Type 0} → DeliveryView A
unconnected = record { association = record { state = Sta1; established = None; ending = Closed }; ahead = []; in_flight = None; sent = 0 }

-- the A-ASSOCIATE-RQ was sent
abbrev pub proposed : {A : Type 0} → DeliveryView A
proposed = record { association = record { state = Sta5; established = None; ending = Closed }; ahead = []; in_flight = None; sent = 0 }
