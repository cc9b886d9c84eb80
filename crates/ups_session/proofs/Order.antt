-- In each step of a side the service replies before a PDU is written.
use Rattle.std.proofs.Common.{◌≡◌, ℕ, ℤ, Bool, true, false, cond, List, [], ◌∷◌, ◌++◌, map, Option, None, Some, inl, inr, refl, sym, ap, ◌∙◌, subst}
use Rattle.std.specs.Prelude.{◌==◌}
use Rattle.ups_ulstate.specs.declared.state.UlState.{UlState}
use Rattle.ups_ulstate.specs.declared.state.UlEvent.{UlEvent}
use Rattle.ups_ulstate.specs.declared.state.UlEvent.TheVariants as events
use Rattle.ups_ulstate.specs.declared.state.UlAction.{UlAction}
use Rattle.ups_ulstate.specs.declared.state.UlAction.TheVariants.{Ae3, Ae6, Ar2, Ar6, Ar8, Ar10, Dt2}
use Rattle.ups_ulstate.specs.Table.{next_of}
use Rattle.ups_pdu.specs.declared.associate.AssociateAc.{AssociateAc}
use Rattle.ups_pdu.specs.declared.pdu.Pdu.{Pdu}
use Rattle.ups_pdu.specs.declared.pdv.Pdv.{Pdv}
use Rattle.ups_pdu.specs.declared.syntax.TransferSyntax.{TransferSyntax}
use Rattle.ups_dimse.specs.declared.command.Command.{Command}
use Rattle.ups_dimse.specs.declared.command.Command.TheVariants.{Request, Response, Cancel}
use Rattle.ups_dimse.specs.declared.command.RequestCommand.{RequestCommand}
use Rattle.ups_assoc.specs.declared.assembling.Begun.TheVariants.{Nothing}
use Rattle.ups_assoc.specs.declared.message.RawMessage.{RawMessage}
use Rattle.ups_assoc.specs.declared.negotiating.AcceptedContext.{AcceptedContext}
use Rattle.ups_assoc.specs.declared.negotiating.Config.{Config}
use Rattle.ups_assoc.specs.declared.negotiating.Outcome.{Outcome}
use Rattle.ups_assoc.specs.declared.negotiating.Outcome.TheVariants.{Accept, Reject}
use Rattle.ups_assoc.specs.Feeding.{Fed, more, whole, fault, fed}
use Rattle.ups_assoc.specs.Negotiation.{outcome}
use Rattle.ups_life.specs.declared.event_reports.EventReport.{EventReport}
use Rattle.ups_life.specs.declared.request.Reply.{Reply}
use Rattle.ups_life.specs.declared.request.Reply.TheVariants.{Status as Told}
use Rattle.ups_cycle.specs.declared.status.Status.TheVariants.{ResourceLimitation}
use Rattle.ups_session.specs.declared.delivery.DeliveryCall.{DeliveryCall}
use Rattle.ups_session.specs.declared.delivery.DeliveryCall.TheVariants.{Pendings, Acknowledgement}
use Rattle.ups_session.specs.declared.delivery.Route.{Route}
use Rattle.ups_session.specs.Acceptor.{acceptor, is_acceptable, answers, requested_at, MessageEffect, on_message_effect, message_effect_of, OnCommand, OnMessage, Continues, Received, Indicated, Reacts}
use Rattle.ups_session.specs.Association.{ParametersView, EstablishedView, AssociationView}
use Rattle.ups_session.specs.Delivery.{DeliveryView}
use Rattle.ups_session.specs.Dispatch.{DispatchView, answered_at_once, asking, AwaitedRequestView}
use Rattle.ups_session.specs.Fold.{Indication, event, request, confirmation, presentation_data, invalid, Visit, replied, wrote, Reaction, Side, Settles, Happens}
use Rattle.ups_session.specs.Proposing.{agreement}
use Rattle.ups_session.specs.Reports.{route_of}
use Rattle.ups_session.specs.Requestor.{DeliveryReaction, releasing, reporting, reporting_next, most_messages, proceeding, on_reply, on_response, event_answered, refusing, on_command, Understands, Assembles, Receives, OnFragment, on_agreement, on_answer, proposing, with_association, requestor}
use Rattle.ups_session.specs.Sides.{ReactionOf, transition, releases, on_action, on_event, unexpected, reason_of, with_begun, context_at}
use Rattle.ups_session.specs.Visits.{RepliesFirst}
use Rattle.ups_session.proofs.Delivered.{pendings_silent}

-- a reaction that awaits a reply sends nothing before it
abbrev IsQuiet : {A L W : Type 0} → Reaction A L W → Type 0
IsQuiet {A} {L} {W} reaction = (w : W) → reaction.waiting ≡ Some w → reaction.send ≡ []

clash : {W X : Type 0} (w : W) → None ≡ Some w → X
clash w e = absurd cc

silent_quiet : {A L W : Type 0} (reaction : Reaction A L W) → reaction.waiting ≡ None → IsQuiet reaction
silent_quiet reaction silent w e = clash w (sym silent ∙ e)

replies_first : {A L W : Type 0} (side : Side A L W) → ((l : L) (w : W) (reply : Reply A) (next : Reaction A L W) → side.OnReply l w reply next → IsQuiet next) → (reaction : Reaction A L W) → IsQuiet reaction
    → (replies : List (Reply A)) (due : List (Visit A)) (after : L) → Settles side reaction replies due after → RepliesFirst due
replies_first side quiet reaction q [] due after (silent, says, is) = ([], reaction.send, refl, says)
replies_first {A} side quiet reaction q (reply ∷ replies) due after (waiting, moment, next, rest, awaits, hears, on, says) =
    let (front, said, none, is) = replies_first side quiet next (quiet reaction.association waiting reply next hears) replies rest after on in (
      replied (side.asked waiting) moment reply ∷ front,
      said,
      none,
      says ∙ ap (λ (l : List (Pdu A)). map wrote l ++ replied (side.asked waiting) moment reply ∷ rest) (q waiting awaits) ∙ ap (λ (l : List (Visit A)). replied (side.asked waiting) moment reply ∷ l) is,
    )

-- THE ACCEPTOR

releases_silent : {A : Type 0} (association : AssociationView A) (cell : Option (UlAction × UlState)) → (releases association cell).waiting ≡ None
releases_silent association None = refl
releases_silent association (Some cell) = refl

action_silent : {A : Type 0} (requestor : Bool) (reason : ℕ) (association : AssociationView A) (action : UlAction) → (on_action requestor reason association action).waiting ≡ None
action_silent requestor reason association Ar2 = releases_silent association (next_of requestor true events.ReleaseResponse association.state)
action_silent requestor reason association Ar8 = releases_silent association (next_of requestor true events.ReleaseResponse association.state)
action_silent requestor reason association Ar10 = releases_silent association (next_of requestor true events.ReleaseResponse association.state)
action_silent requestor reason association action = refl

event_silent : {A : Type 0} (requestor : Bool) (reason : ℕ) (association : AssociationView A) (e : UlEvent) (cell : Option (UlAction × UlState)) → (on_event requestor reason association e cell).waiting ≡ None
event_silent requestor reason association e None = refl
event_silent requestor reason association e (Some cell) = action_silent requestor reason (transition association e cell.0 cell.1) cell.0

answers_silent : {A : Type 0} (requestor : Bool) (association : AssociationView A) (o : Outcome A) → (answers requestor association o).waiting ≡ None
answers_silent requestor association (Accept a) = refl
answers_silent requestor association (Reject r) = refl

requested_silent : {A : Type 0} (requestor : Bool) (association : AssociationView A) (o : Outcome A) (cell : Option (UlAction × UlState)) → (requested_at requestor association o cell).waiting ≡ None
requested_silent requestor association o None = refl
requested_silent requestor association o (Some (Ae6, state)) = answers_silent requestor (transition association events.AssociateRq Ae6 state) o
requested_silent requestor association o (Some (action, state)) = action_silent requestor unexpected (transition association events.AssociateRq action state) action

-- the effect of a message sends nothing, or awaits nothing
abbrev IsQuietEffect : {A : Type 0} → MessageEffect A → Type 0
IsQuietEffect None = Unit {0}
IsQuietEffect {A} (Some (send, waiting)) = (w : AwaitedRequestView A) → waiting ≡ Some w → send ≡ []

dispatch_quiet : {A : Type 0} (parameters : ParametersView) (context : AcceptedContext) (command : RequestCommand A) (d : DispatchView A) → IsQuietEffect (message_effect_of parameters context command d)
dispatch_quiet parameters context command (answered_at_once status) = λ w e. clash w e
dispatch_quiet parameters context command (asking ask) = λ w e. refl

command_quiet : {A : Type 0} (offset : ℤ) (parameters : ParametersView) (context : Option AcceptedContext) (body : Option (List ℕ)) (command : Command A) (h : MessageEffect A) → OnCommand offset parameters context body command h → IsQuietEffect h
command_quiet {A} offset parameters context body (Response response) h is = subst (λ (x : MessageEffect A). IsQuietEffect x) (sym is) (λ w e. refl)
command_quiet {A} offset parameters context body (Cancel cancel) h is = subst (λ (x : MessageEffect A). IsQuietEffect x) (sym is) (λ w e. refl)
command_quiet {A} offset parameters None body (Request command) h is = subst (λ (x : MessageEffect A). IsQuietEffect x) (sym is) tt
command_quiet {A} offset parameters (Some context) body (Request command) h (d, dispatches, is) = subst (λ (x : MessageEffect A). IsQuietEffect x) (sym is) (dispatch_quiet parameters context command d)

message_quiet : {A : Type 0} (offset : ℤ) (parameters : ParametersView) (message : RawMessage A) (h : MessageEffect A) → OnMessage offset parameters message h → IsQuietEffect h
message_quiet offset parameters message h (inl (command, spelled, is)) = command_quiet offset parameters (context_at message.context parameters.contexts) message.body command h is
message_quiet {A} offset parameters message h (inr (none, is)) = subst (λ (x : MessageEffect A). IsQuietEffect x) (sym is) tt

effect_quiet : {A : Type 0} (requestor : Bool) (association : AssociationView A) (h : MessageEffect A) → IsQuietEffect h → IsQuiet (on_message_effect requestor association h)
effect_quiet requestor association None q = λ w e. clash w e
effect_quiet requestor association (Some (send, waiting)) q = q

quiet_as : {A L W : Type 0} (reaction other : Reaction A L W) → reaction ≡ other → IsQuiet other → IsQuiet reaction
quiet_as {A} {L} {W} reaction other is q = subst (λ (x : Reaction A L W). IsQuiet x) (sym is) q

silent_as : {A L W : Type 0} (reaction other : Reaction A L W) → reaction ≡ other → other.waiting ≡ None → IsQuiet reaction
silent_as reaction other is silent = quiet_as reaction other is (silent_quiet other silent)

continues_quiet : {A : Type 0} (requestor : Bool) (offset : ℤ) (association : AssociationView A) (established : EstablishedView A) (f : Fed A) (reaction : ReactionOf A) → Continues requestor offset association established f reaction → IsQuiet reaction
continues_quiet requestor offset association established (more begun) reaction is = silent_as reaction _ is refl
continues_quiet requestor offset association established (whole message) reaction (h, on, is) =
    quiet_as reaction _ is (effect_quiet requestor (with_begun association established Nothing) h (message_quiet offset established.parameters message h on))
continues_quiet requestor offset association established (fault why) reaction is = silent_as reaction _ is refl

received_quiet : {A : Type 0} (requestor : Bool) (offset : ℤ) (association : AssociationView A) (established : Option (EstablishedView A)) (pdv : Pdv A) (reaction : ReactionOf A) → Received requestor offset association established pdv reaction → IsQuiet reaction
received_quiet requestor offset association None pdv reaction is = silent_as reaction _ is refl
received_quiet requestor offset association (Some established) pdv reaction is = continues_quiet requestor offset association established (fed established.assembler.ids established.assembler.begun pdv) reaction is

indicated_quiet : {A : Type 0} (requestor : Bool) (offset : ℤ) (association : AssociationView A) (pdv : Pdv A) (cell : Option (UlAction × UlState)) (reaction : ReactionOf A) → Indicated requestor offset association pdv cell reaction → IsQuiet reaction
indicated_quiet requestor offset association pdv None reaction is = silent_as reaction _ is refl
indicated_quiet requestor offset association pdv (Some (Dt2, state)) reaction is = received_quiet requestor offset (transition association events.Data Dt2 state) association.established pdv reaction is
indicated_quiet requestor offset association pdv (Some (action, state)) reaction is = silent_as reaction _ is (action_silent requestor unexpected (transition association events.Data action state) action)

reacts_quiet : {A : Type 0} (requestor : Bool) (config : Config) (association : AssociationView A) (indication : Indication A) (reaction : ReactionOf A) → Reacts requestor config association indication reaction → IsQuiet reaction
reacts_quiet requestor config association (event e) reaction is = silent_as reaction _ is (event_silent requestor unexpected association e (next_of requestor true e association.state))
reacts_quiet requestor config association (request rq) reaction is = silent_as reaction _ is (requested_silent requestor association (outcome config.ae rq) (next_of requestor (is_acceptable (outcome config.ae rq)) events.AssociateRq association.state))
reacts_quiet requestor config association (confirmation ac) reaction is = silent_as reaction _ is (event_silent requestor unexpected association events.AssociateAc (next_of requestor true events.AssociateAc association.state))
reacts_quiet requestor config association (presentation_data pdv) reaction is = indicated_quiet requestor config.offset association pdv (next_of requestor true events.Data association.state) reaction is
reacts_quiet requestor config association (invalid f) reaction is = silent_as reaction _ is (event_silent requestor (reason_of f) association events.Invalid (next_of requestor true events.Invalid association.state))

pub acceptor_replies_first : {A : Type 0} (config : Config) (association after : AssociationView A) (indication : Indication A) (due : List (Visit A)) → Happens (acceptor config) association indication due after → RepliesFirst due
acceptor_replies_first config association after indication due (reaction, replies, reacts, settles) =
    replies_first (acceptor config) (λ l w reply next hears. silent_as next _ hears refl) reaction (reacts_quiet false config association indication reaction reacts) replies due after settles

-- THE REQUESTOR

reporting_silent : {A : Type 0} (d : DeliveryView A) (report : EventReport A) (rest : List (EventReport A)) (route : Option Route) → (reporting d report rest route).waiting ≡ None
reporting_silent d report rest None = refl
reporting_silent d report rest (Some route) = refl

next_quiet : {A : Type 0} (d : DeliveryView A) (reports : List (EventReport A)) → IsQuiet (reporting_next d reports)
next_quiet d [] = λ w e. refl
next_quiet d (report ∷ rest) = silent_quiet (reporting d report rest (route_of d.association.established)) (reporting_silent d report rest (route_of d.association.established))

if_quiet : {A : Type 0} (b : Bool) (x y : DeliveryReaction A) → IsQuiet x → IsQuiet y → IsQuiet (cond b x y)
if_quiet true x y p q = p
if_quiet false x y p q = q

proceeding_quiet : {A : Type 0} (d : DeliveryView A) → IsQuiet (proceeding d)
proceeding_quiet d = if_quiet (d.sent == most_messages) (releasing d) (reporting_next d d.ahead) (λ w e. clash w e) (next_quiet d d.ahead)

acknowledged_quiet : {A : Type 0} (d : DeliveryView A) (upto : ℕ) (reply : Reply A) → IsQuiet (on_reply d (Acknowledgement upto) reply)
acknowledged_quiet d upto (Told ResourceLimitation) = λ w e. clash w e
acknowledged_quiet d upto reply = proceeding_quiet d

reply_quiet : {A : Type 0} (d : DeliveryView A) (call : DeliveryCall) (reply : Reply A) → IsQuiet (on_reply d call reply)
reply_quiet d Pendings reply = silent_quiet (on_reply d Pendings reply) (pendings_silent d reply)
reply_quiet d (Acknowledgement upto) reply = acknowledged_quiet d upto reply

response_quiet : {A : Type 0} (d : DeliveryView A) (number : Option ℕ) → IsQuiet (on_response d number)
response_quiet d None = λ w e. clash w e
response_quiet d (Some number) = λ w e. refl

refusing_silent : {A : Type 0} (d : DeliveryView A) (command : RequestCommand A) (route : Option Route) → (refusing d command route).waiting ≡ None
refusing_silent d command None = refl
refusing_silent d command (Some route) = refl

on_command_quiet : {A : Type 0} (d : DeliveryView A) (released : Bool) (command : Command A) → IsQuiet (on_command d released command)
on_command_quiet d true command = λ w e. clash w e
on_command_quiet d false (Response response) = response_quiet d (event_answered d.in_flight response)
on_command_quiet d false (Cancel cancel) = λ w e. clash w e
on_command_quiet d false (Request command) = silent_quiet (refusing d command (route_of d.association.established)) (refusing_silent d command (route_of d.association.established))

understands_quiet : {A : Type 0} (d : DeliveryView A) (released : Bool) (message : RawMessage A) (reaction : DeliveryReaction A) → Understands d released message reaction → IsQuiet reaction
understands_quiet d released message reaction (inl (command, spelled, is)) = quiet_as reaction _ is (on_command_quiet d released command)
understands_quiet d released message reaction (inr (none, is)) = silent_as reaction _ is refl

assembles_quiet : {A : Type 0} (d : DeliveryView A) (established : EstablishedView A) (released : Bool) (f : Fed A) (reaction : DeliveryReaction A) → Assembles d established released f reaction → IsQuiet reaction
assembles_quiet d established released (more begun) reaction is = silent_as reaction _ is refl
assembles_quiet d established released (whole message) reaction is = understands_quiet (with_association d (with_begun d.association established Nothing)) released message reaction is
assembles_quiet d established released (fault why) reaction is = silent_as reaction _ is refl

receives_quiet : {A : Type 0} (d : DeliveryView A) (established : Option (EstablishedView A)) (released : Bool) (pdv : Pdv A) (reaction : DeliveryReaction A) → Receives d established released pdv reaction → IsQuiet reaction
receives_quiet d None released pdv reaction is = silent_as reaction _ is refl
receives_quiet d (Some established) released pdv reaction is = assembles_quiet d established released (fed established.assembler.ids established.assembler.begun pdv) reaction is

fragment_quiet : {A : Type 0} (d : DeliveryView A) (pdv : Pdv A) (cell : Option (UlAction × UlState)) (reaction : DeliveryReaction A) → OnFragment d pdv cell reaction → IsQuiet reaction
fragment_quiet d pdv None reaction is = silent_as reaction _ is refl
fragment_quiet d pdv (Some (Dt2, state)) reaction is = receives_quiet (with_association d (transition d.association events.Data Dt2 state)) d.association.established false pdv reaction is
fragment_quiet d pdv (Some (Ar6, state)) reaction is = receives_quiet (with_association d (transition d.association events.Data Ar6 state)) d.association.established true pdv reaction is
fragment_quiet d pdv (Some (action, state)) reaction is = silent_as reaction _ is refl

agreement_quiet : {A : Type 0} (ae : List ℕ) (d : DeliveryView A) (ac : AssociateAc A) (agreed : Option TransferSyntax) → IsQuiet (on_agreement ae d ac agreed)
agreement_quiet ae d ac None = λ w e. clash w e
agreement_quiet ae d ac (Some syntax) = λ w e. refl

answer_quiet : {A : Type 0} (ae : List ℕ) (d : DeliveryView A) (ac : AssociateAc A) (cell : Option (UlAction × UlState)) → IsQuiet (on_answer ae d ac cell)
answer_quiet ae d ac None = λ w e. clash w e
answer_quiet ae d ac (Some (Ae3, state)) = agreement_quiet ae (with_association d (transition d.association events.AssociateAc Ae3 state)) ac (agreement ac)
answer_quiet ae d ac (Some (action, state)) = λ w e. clash w e

proposing_silent : {A : Type 0} (calling called : List ℕ) (d : DeliveryView A) (cell : Option (UlAction × UlState)) → (proposing calling called d cell).waiting ≡ None
proposing_silent calling called d None = refl
proposing_silent calling called d (Some cell) = refl

delivers_quiet : {A : Type 0} (config : Config) (ae : List ℕ) (d : DeliveryView A) (indication : Indication A) (reaction : DeliveryReaction A) → (requestor config ae).Reacts d indication reaction → IsQuiet reaction
delivers_quiet config ae d (event events.TransportConfirmed) reaction is = silent_as reaction _ is (proposing_silent config.ae ae d (next_of true true events.TransportConfirmed d.association.state))
delivers_quiet config ae d (event e) reaction is = silent_as reaction _ is refl
delivers_quiet config ae d (request rq) reaction is = silent_as reaction _ is refl
delivers_quiet config ae d (confirmation ac) reaction is = quiet_as reaction _ is (answer_quiet ae d ac (next_of true true events.AssociateAc d.association.state))
delivers_quiet config ae d (presentation_data pdv) reaction is = fragment_quiet d pdv (next_of true true events.Data d.association.state) reaction is
delivers_quiet config ae d (invalid f) reaction is = silent_as reaction _ is refl

pub requestor_replies_first : {A : Type 0} (config : Config) (ae : List ℕ) (d after : DeliveryView A) (indication : Indication A) (due : List (Visit A)) → Happens (requestor config ae) d indication due after → RepliesFirst due
requestor_replies_first config ae d after indication due (reaction, replies, reacts, settles) =
    replies_first (requestor config ae) (λ l w reply next hears. quiet_as next _ hears (reply_quiet l w reply)) reaction (delivers_quiet config ae d indication reaction reacts) replies due after settles
