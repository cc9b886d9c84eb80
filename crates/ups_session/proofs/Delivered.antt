-- What a fragment and a message make of a delivery.
use Rattle.std.proofs.Common.{◌≡◌, ◌<◌, arith, true, false, cond, Bool, List, [], ◌∷◌, length, ap, sym, ◌∙◌, subst, refl, inr, Option, Some, None, Result, IfOk}
use Rattle.std.specs.Prelude.{ℕ, ◌≢◌, ◌==◌}
use Rattle.std.proofs.lemmas.Bool.Decides.{nat_tests}
use Rattle.ups_ulstate.specs.declared.state.UlState.{UlState}
use Rattle.ups_ulstate.specs.declared.state.UlEvent.TheVariants as events
use Rattle.ups_ulstate.specs.declared.state.UlAction.{UlAction}
use Rattle.ups_ulstate.specs.declared.state.UlAction.TheVariants.{Ae3, Ar6, Dt2}
use Rattle.ups_pdu.specs.declared.associate.AssociateAc.{AssociateAc}
use Rattle.ups_pdu.specs.declared.pdu.Pdu.{Pdu}
use Rattle.ups_pdu.specs.declared.pdv.Pdv.{Pdv}
use Rattle.ups_dimse.specs.declared.command.Command.{Command}
use Rattle.ups_dimse.specs.declared.fault.DimseFault.{DimseFault}
use Rattle.ups_dimse.specs.declared.fault.DimseFault.TheVariants as dimse_faults
use Rattle.ups_dimse.specs.Commands.{SpellsCommand}
use Rattle.ups_assoc.specs.Assembly.{Assembly}
use Rattle.ups_assoc.specs.declared.assembling.Begun.TheVariants.{Nothing, Failed}
use Rattle.ups_assoc.specs.declared.fault.AssocFault.{AssocFault}
use Rattle.ups_assoc.specs.declared.fault.AssocFault.TheVariants as faults
use Rattle.ups_assoc.specs.declared.message.RawMessage.{RawMessage}
use Rattle.ups_assoc.specs.Feeding.{Fed, more, whole, fault, Feeds}
use Rattle.ups_life.specs.declared.event_reports.EventReport.{EventReport}
use Rattle.ups_life.specs.declared.request.Reply.{Reply}
use Rattle.ups_life.specs.declared.request.Reply.TheVariants.{Status as Told, Reports}
use Rattle.ups_cycle.specs.declared.status.Status.TheVariants.{ResourceLimitation}
use Rattle.ups_session.specs.declared.delivery.Route.{Route}
use Rattle.ups_session.specs.declared.effect.Effect.{Effect}
use Rattle.ups_session.specs.declared.effect.Effect.TheVariants.{Send, Respond, Call}
use Rattle.ups_session.specs.declared.fault.SessionFault.{SessionFault}
use Rattle.ups_session.specs.declared.delivery.DeliveryCall.{DeliveryCall}
use Rattle.ups_session.specs.declared.delivery.DeliveryCall.TheVariants.{Pendings}
use Rattle.ups_session.specs.Association.{AssociationView, EstablishedView}
use Rattle.ups_session.specs.Delivery.{DeliveryView}
use Rattle.ups_session.specs.Deliveries.{IsSendableDelivery}
use Rattle.ups_session.specs.Party.{CanSend}
use Rattle.ups_session.specs.Sides.{transition, on_action, unexpected, aborting}
use Rattle.ups_session.specs.Requestor.{DeliveryReaction, saying, awaiting, with_association, along, releasing, reporting, reporting_next, most_messages, proceeding, with_ahead, on_pendings, on_acknowledged, Understands, Assembles, Receives, OnFragment, on_agreement, on_answer}
use Rattle.ups_session.specs.Proposing.{agreement}
use Rattle.ups_session.specs.Reports.{route_of}
use Rattle.ups_session.proofs.Parts.{if_ok}
use Rattle.ups_session.proofs.Receiving.{after, after_is, fed_on, fed_not}

-- what a delivery sends can be written
can_send : {A : Type 0} (effect : Effect A DeliveryCall) → IsSendableDelivery effect → CanSend (λ call. Unit {0}) effect
can_send (Send said) s = s
can_send (Respond response) s = absurd s
can_send (Call call) s = s

pub sendable : {A : Type 0} (r : Result (Effect A DeliveryCall) SessionFault) → IfOk r IsSendableDelivery → IfOk r (CanSend (λ call. Unit {0}))
sendable r s = if_ok r _ _ (λ effect w. can_send effect w) s

-- a message whose command can't be read
pub not_understood : {A : Type 0} (d : DeliveryView A) (released : Bool) (message : RawMessage A) (bytes : List ℕ) (why : DimseFault) (reaction : DeliveryReaction A) → bytes ≡ message.command
    → ((command : Command A) → SpellsCommand bytes command → why ≡ dimse_faults.Memory) → why ≢ dimse_faults.Memory → reaction ≡ along d (aborting true d.association) → Understands d released message reaction
not_understood d released message bytes why reaction is only other e = inr ((λ command s. other (only command (subst (λ (l : List ℕ). SpellsCommand l command) (sym is) s))), e)

-- with another assembler
abbrev pub assembling : {A : Type 0} → DeliveryView A → EstablishedView A → Assembly A → DeliveryView A
assembling d established assembly = with_association d (after d.association established assembly)

-- a message goes on
pub more_came : {A : Type 0} (d : DeliveryView A) (established : EstablishedView A) (released : Bool) (f : Fed A) (new : Assembly A) (said : List (Pdu A)) → new.ids ≡ established.assembler.ids → Feeds f new.begun (fed_on None) → said ≡ []
    → Assembles d established released f (saying (assembling d established new) said)
more_came d established released (more b) new said e is none = λ i. saying (with_association d (after_is d.association established new b e is i)) (none i)
more_came d established released (whole m) new said e is none = absurd is
more_came d established released (fault why) new said e is none = absurd is

came : {A : Type 0} (d : DeliveryView A) (established : EstablishedView A) (released : Bool) (f : Fed A) (new : Assembly A) (message : RawMessage A) (reaction : DeliveryReaction A) → new.ids ≡ established.assembler.ids
    → Feeds f new.begun (fed_on (Some message)) → Understands (assembling d established new) released message reaction → Assembles d established released f reaction
came d established released (more b) new message reaction e is u = absurd is
came {A} d established released (whole m) new message reaction e is u =
    let same = subst (λ (x : RawMessage A). Understands (assembling d established new) released x reaction) is.0 u in
    subst (λ (a : AssociationView A). Understands (with_association d a) released m reaction) (after_is d.association established new Nothing e is.1) same
came d established released (fault why) new message reaction e is u = absurd is

-- a message is whole
pub whole_came : {A : Type 0} (d : DeliveryView A) (established : EstablishedView A) (released : Bool) (f : Fed A) (new : Assembly A) (progress : Option (RawMessage A)) (message : RawMessage A) (reaction : DeliveryReaction A) → progress ≡ Some message
    → new.ids ≡ established.assembler.ids → Feeds f new.begun (fed_on progress) → Understands (assembling d established new) released message reaction → Assembles d established released f reaction
whole_came {A} d established released f new progress message reaction one e is u =
    came d established released f new message reaction e (subst (λ (o : Option (RawMessage A)). Feeds f new.begun (fed_on o)) one is) u

-- there is none
pub fault_came : {A : Type 0} (d : DeliveryView A) (established : EstablishedView A) (released : Bool) (f : Fed A) (new : Assembly A) (why : AssocFault) (reaction : DeliveryReaction A) → new.ids ≡ established.assembler.ids
    → Feeds f new.begun (fed_not why) → why ≢ faults.Memory → reaction ≡ along d (aborting true (after d.association established new)) → Assembles d established released f reaction
fault_came d established released (more b) new why reaction e is other same = absurd (other is.0)
fault_came d established released (whole m) new why reaction e is other same = absurd (other is.0)
fault_came {A} d established released (fault f) new why reaction e is other same = same ∙ ap (λ (a : AssociationView A). along d (aborting true a)) (after_is d.association established new Failed e is.1)

other_action : {A : Type 0} (d : DeliveryView A) (pdv : Pdv A) (action : UlAction) (state : UlState) (reaction : DeliveryReaction A) → action ≢ Dt2 → action ≢ Ar6
    → reaction ≡ along d (on_action true unexpected (transition d.association events.Data action state) action) → OnFragment d pdv (Some (action, state)) reaction
other_action d pdv Dt2 state reaction unlike never e = absurd (unlike refl)
other_action d pdv Ar6 state reaction unlike never e = absurd (never refl)
other_action d pdv action state reaction unlike never e = e

-- a fragment in a state in which no message is received
pub not_received : {A : Type 0} (d : DeliveryView A) (pdv : Pdv A) (cell : Option (UlAction × UlState)) (action : UlAction) (state : UlState) (mid : AssociationView A) (reaction : DeliveryReaction A) → cell ≡ Some (action, state) → action ≢ Dt2 → action ≢ Ar6
    → mid ≡ transition d.association events.Data action state → reaction ≡ along d (on_action true unexpected mid action) → OnFragment d pdv cell reaction
not_received {A} d pdv cell action state mid reaction is unlike never same e =
    subst (λ (o : Option (UlAction × UlState)). OnFragment d pdv o reaction) (sym is)
    (other_action d pdv action state reaction unlike never (e ∙ ap (λ (a : AssociationView A). along d (on_action true unexpected a action)) same))

-- a fragment in a state in which messages are received
pub received : {A : Type 0} (d : DeliveryView A) (pdv : Pdv A) (cell : Option (UlAction × UlState)) (action : UlAction) (state : UlState) (mid : AssociationView A) (reaction : DeliveryReaction A) → cell ≡ Some (action, state) → action ≡ Dt2
    → mid ≡ transition d.association events.Data action state → Receives (with_association d mid) mid.established false pdv reaction → OnFragment d pdv cell reaction
received {A} d pdv cell action state mid reaction is moves same r =
    let cell_is : cell ≡ Some (Dt2, state) = subst (λ (a : UlAction). cell ≡ Some (a, state)) moves is in
    let mid_is : mid ≡ transition d.association events.Data Dt2 state = subst (λ (a : UlAction). mid ≡ transition d.association events.Data a state) moves same in
    subst (λ (o : Option (UlAction × UlState)). OnFragment d pdv o reaction) (sym cell_is)
    (subst (λ (m : AssociationView A). Receives (with_association d m) m.established false pdv reaction) mid_is r)

-- the same, once the release was requested
pub received_late : {A : Type 0} (d : DeliveryView A) (pdv : Pdv A) (cell : Option (UlAction × UlState)) (action : UlAction) (state : UlState) (mid : AssociationView A) (reaction : DeliveryReaction A) → cell ≡ Some (action, state) → action ≡ Ar6
    → mid ≡ transition d.association events.Data action state → Receives (with_association d mid) mid.established true pdv reaction → OnFragment d pdv cell reaction
received_late {A} d pdv cell action state mid reaction is moves same r =
    let cell_is : cell ≡ Some (Ar6, state) = subst (λ (a : UlAction). cell ≡ Some (a, state)) moves is in
    let mid_is : mid ≡ transition d.association events.Data Ar6 state = subst (λ (a : UlAction). mid ≡ transition d.association events.Data a state) moves same in
    subst (λ (o : Option (UlAction × UlState)). OnFragment d pdv o reaction) (sym cell_is)
    (subst (λ (m : AssociationView A). Receives (with_association d m) m.established true pdv reaction) mid_is r)

-- an answer in the state in which one is awaited
pub accepted : {A : Type 0} (ae : List ℕ) (d : DeliveryView A) (ac : AssociateAc A) (cell : Option (UlAction × UlState)) (action : UlAction) (state : UlState) (mid : AssociationView A) (reaction : DeliveryReaction A) → cell ≡ Some (action, state) → action ≡ Ae3
    → mid ≡ transition d.association events.AssociateAc action state → reaction ≡ on_agreement ae (with_association d mid) ac (agreement ac) → reaction ≡ on_answer ae d ac cell
accepted {A} ae d ac cell action state mid reaction is moves same e =
    let cell_is : cell ≡ Some (Ae3, state) = subst (λ (a : UlAction). cell ≡ Some (a, state)) moves is in
    let mid_is : mid ≡ transition d.association events.AssociateAc Ae3 state = subst (λ (a : UlAction). mid ≡ transition d.association events.AssociateAc a state) moves same in
    e ∙ ap (λ (m : AssociationView A). on_agreement ae (with_association d m) ac (agreement ac)) mid_is ∙ ap (on_answer ae d ac) (sym cell_is)

other_answer : {A : Type 0} (ae : List ℕ) (d : DeliveryView A) (ac : AssociateAc A) (action : UlAction) (state : UlState) (reaction : DeliveryReaction A) → action ≢ Ae3
    → reaction ≡ along d (on_action true unexpected (transition d.association events.AssociateAc action state) action) → reaction ≡ on_answer ae d ac (Some (action, state))
other_answer ae d ac Ae3 state reaction unlike e = absurd (unlike refl)
other_answer ae d ac action state reaction unlike e = e

-- an answer in a state in which none is awaited
pub not_accepted : {A : Type 0} (ae : List ℕ) (d : DeliveryView A) (ac : AssociateAc A) (cell : Option (UlAction × UlState)) (action : UlAction) (state : UlState) (mid : AssociationView A) (reaction : DeliveryReaction A) → cell ≡ Some (action, state) → action ≢ Ae3
    → mid ≡ transition d.association events.AssociateAc action state → reaction ≡ along d (on_action true unexpected mid action) → reaction ≡ on_answer ae d ac cell
not_accepted {A} ae d ac cell action state mid reaction is unlike same e =
    other_answer ae d ac action state reaction unlike (e ∙ ap (λ (a : AssociationView A). along d (on_action true unexpected a action)) same) ∙ ap (on_answer ae d ac) (sym is)

-- how a delivery goes on

not_most : (n : ℕ) → n < 65535 → (n == most_messages) ≡ false
not_most n few = grind (arith, nat_tests)

if_true : {X : Type 0} (b : Bool) (x y : X) → b ≡ true → cond b x y ≡ x
if_true true x y e = refl
if_true false x y e = absurd cc

if_false : {X : Type 0} (b : Bool) (x y : X) → b ≡ false → cond b x y ≡ y
if_false true x y e = absurd cc
if_false false x y e = refl

-- no more messages may be sent
pub stops : {A : Type 0} (d : DeliveryView A) → d.sent ≡ 65535 → proceeding d ≡ releasing d
stops d most = if_true (d.sent == most_messages) (releasing d) (reporting_next d d.ahead) (ap (λ (n : ℕ). n == most_messages) most)

pub goes_on : {A : Type 0} (d : DeliveryView A) → d.sent < 65535 → proceeding d ≡ reporting_next d d.ahead
goes_on d few = if_false (d.sent == most_messages) (releasing d) (reporting_next d d.ahead) (not_most d.sent few)

-- all reports were sent
pub asks_again : {A : Type 0} (d : DeliveryView A) → d.sent < 65535 → d.ahead ≡ [] → proceeding d ≡ awaiting d Pendings
asks_again d few none = goes_on d few ∙ ap (reporting_next d) none

-- what is asked for behind a report

clash : {w : DeliveryCall} → None ≡ Some w → ⊥
clash e = cc

reporting_silent : {A : Type 0} (d : DeliveryView A) (report : EventReport A) (rest : List (EventReport A)) (route : Option Route) → (reporting d report rest route).waiting ≡ None
reporting_silent d report rest None = refl
reporting_silent d report rest (Some route) = refl

next_calls : {A : Type 0} (d : DeliveryView A) (reports : List (EventReport A)) (w : DeliveryCall) → (reporting_next d reports).waiting ≡ Some w → w ≡ Pendings
next_calls d [] w e = cc
next_calls d (report ∷ rest) w e = absurd (clash (sym (reporting_silent d report rest (route_of d.association.established)) ∙ e))

if_calls : {A : Type 0} (b : Bool) (x y : DeliveryReaction A) (w : DeliveryCall) → x.waiting ≡ None → (y.waiting ≡ Some w → w ≡ Pendings) → (cond b x y).waiting ≡ Some w → w ≡ Pendings
if_calls true x y w silent then e = absurd (clash (sym silent ∙ e))
if_calls false x y w silent then e = then e

going_calls : {A : Type 0} (d : DeliveryView A) (w : DeliveryCall) → (proceeding d).waiting ≡ Some w → w ≡ Pendings
going_calls d w e = if_calls (d.sent == most_messages) (releasing d) (reporting_next d d.ahead) w refl (next_calls d d.ahead w) e

-- behind an acknowledgement only what is pending is asked for
pub acknowledged_calls : {A : Type 0} (d : DeliveryView A) (reply : Reply A) (w : DeliveryCall) → (on_acknowledged d reply).waiting ≡ Some w → w ≡ Pendings
acknowledged_calls d (Told ResourceLimitation) w e = absurd (clash e)
acknowledged_calls d reply w e = going_calls d w e

if_silent : {A : Type 0} (b : Bool) (x y : DeliveryReaction A) → x.waiting ≡ None → y.waiting ≡ None → (cond b x y).waiting ≡ None
if_silent true x y e f = e
if_silent false x y e f = f

-- a reply with events is reported, or the association is released: nothing more is asked
pub pendings_silent : {A : Type 0} (d : DeliveryView A) (reply : Reply A) → (on_pendings d reply).waiting ≡ None
pendings_silent d (Reports (report ∷ rest)) =
    let e = with_ahead d (report ∷ rest) in
    if_silent (d.sent == most_messages) (releasing e) (reporting e report rest (route_of d.association.established)) refl (reporting_silent e report rest (route_of d.association.established))
pendings_silent d reply = refl

told_of : {A : Type 0} (d : DeliveryView A) (reports : List (EventReport A)) → (reports ≡ [] → ⊥) → proceeding (with_ahead d reports) ≡ on_pendings d (Reports reports)
told_of d [] some = absurd (some refl)
told_of d (report ∷ rest) some = refl

apart : false ≡ true → ⊥
apart e = cc

-- events are told of
pub events_told : {A : Type 0} (d : DeliveryView A) (reply : Reply A) (reports items : List (EventReport A)) (b : Bool) (reaction : DeliveryReaction A) → reply ≡ Reports reports → items ≡ reports → b ≡ (length items == 0) → b ≡ false
    → reaction ≡ proceeding (with_ahead d reports) → reaction ≡ on_pendings d reply
events_told {A} d reply reports items b reaction is same test no_test e =
    e ∙ told_of d reports (λ none. apart (sym no_test ∙ test ∙ ap (λ (l : List (EventReport A)). length l == 0) (same ∙ none))) ∙ ap (on_pendings d) (sym is)
