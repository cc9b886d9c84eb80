-- What a fragment makes of an association.
use Rattle.std.proofs.Common.{◌≡◌, false, ℤ, [], refl, sym, subst, ap, ◌∙◌, Option, None, Some, Result, Ok, Err, IfOk}
use Rattle.std.specs.Prelude.{◌≢◌}
use Rattle.ups_assoc.specs.Assembly.{Assembly}
use Rattle.ups_assoc.specs.declared.assembling.Begun.{Begun}
use Rattle.ups_assoc.specs.declared.assembling.Begun.TheVariants.{Nothing, Failed}
use Rattle.ups_assoc.specs.declared.fault.AssocFault.{AssocFault}
use Rattle.ups_assoc.specs.declared.fault.AssocFault.TheVariants as faults
use Rattle.ups_assoc.specs.declared.message.RawMessage.{RawMessage}
use Rattle.ups_assoc.specs.Feeding.{Fed, more, whole, fault, Feeds}
use Rattle.ups_session.specs.Association.{AssociationView, EstablishedView}
use Rattle.ups_session.specs.declared.effect.AwaitedRequest.{AwaitedRequest}
use Rattle.ups_session.specs.declared.effect.Effect.{Effect}
use Rattle.ups_session.specs.declared.fault.SessionFault.{SessionFault}
use Rattle.ups_ulstate.specs.declared.state.UlState.{UlState}
use Rattle.ups_ulstate.specs.declared.state.UlEvent.TheVariants as events
use Rattle.ups_ulstate.specs.declared.state.UlAction.{UlAction}
use Rattle.ups_ulstate.specs.declared.state.UlAction.TheVariants.{Dt2}
use Rattle.ups_pdu.specs.declared.pdv.Pdv.{Pdv}
use Rattle.ups_session.specs.Acceptor.{on_message_effect, OnMessage, Continues, Indicated}
use Rattle.ups_session.specs.Sides.{ReactionOf, sending, transition, on_action, unexpected, aborting, with_begun}
use Rattle.ups_session.specs.Party.{said_by, awaited_by}
use Rattle.ups_session.specs.Effects.{awaited_view, message_effect}
use Rattle.ups_session.proofs.Parts.{if_ok}

-- with another assembler
abbrev pub after : {A : Type 0} → AssociationView A → EstablishedView A → Assembly A → AssociationView A
after association established assembly = record { state = association.state; established = Some (record { parameters = established.parameters; assembler = assembly }); ending = association.ending }

pub after_is : {A : Type 0} (association : AssociationView A) (established : EstablishedView A) (new : Assembly A) (begun : Begun A) → new.ids ≡ established.assembler.ids → new.begun ≡ begun → after association established new ≡ with_begun association established begun
after_is association established new begun e f = λ i. record { state = association.state; established = Some (record { parameters = established.parameters; assembler = record { ids = e i; begun = f i } }); ending = association.ending }

abbrev pub fed_on : {A : Type 0} → Option (RawMessage A) → Result (Option (RawMessage A)) AssocFault
fed_on found = Ok found

abbrev pub fed_not : {A : Type 0} → AssocFault → Result (Option (RawMessage A)) AssocFault
fed_not e = Err e

-- what a message comes to, where one has come
abbrev pub OnReply : {A : Type 0} → ℤ → AssociationView A → EstablishedView A → Fed A → Assembly A → Option (Effect A (AwaitedRequest A)) → Type 0
OnReply offset association established f new found = Continues false offset association established f (on_message_effect false (after association established new) (message_effect found))

understood : {A : Type 0} (offset : ℤ) (association : AssociationView A) (established : EstablishedView A) (f : Fed A) (new : Assembly A) (message : RawMessage A) (found : Option (Effect A (AwaitedRequest A))) → new.ids ≡ established.assembler.ids
    → Feeds f new.begun (fed_on (Some message)) → OnMessage offset established.parameters message (message_effect found) → OnReply offset association established f new found
understood offset association established (more b) new message found e is u = absurd is
understood {A} offset association established (whole m) new message found e is u =
    (message_effect found, subst (λ (x : RawMessage A). OnMessage offset established.parameters x (message_effect found)) is.0 u, ap (λ l. on_message_effect false l (message_effect found)) (after_is association established new Nothing e is.1))
understood offset association established (fault why) new message found e is u = absurd is

pub whole_came : {A : Type 0} (offset : ℤ) (established : EstablishedView A) (f : Fed A) (new : Assembly A) (progress : Option (RawMessage A)) (message : RawMessage A) (r : Result (Option (Effect A (AwaitedRequest A))) SessionFault) → progress ≡ Some message → new.ids ≡ established.assembler.ids
    → Feeds f new.begun (fed_on progress) → IfOk r (λ found. OnMessage offset established.parameters message (message_effect found)) → IfOk r (λ found. (association : AssociationView A) → OnReply offset association established f new found)
whole_came {A} offset established f new progress message r one e is u =
    let now : Feeds f new.begun (fed_on (Some message)) = subst (λ (o : Option (RawMessage A)). Feeds f new.begun (fed_on o)) one is in
    if_ok r _ _ (λ found h association. understood offset association established f new message found e now h) u

other_action : {A : Type 0} (offset : ℤ) (association : AssociationView A) (pdv : Pdv A) (action : UlAction) (state : UlState) (reaction : ReactionOf A) → action ≢ Dt2
    → reaction ≡ on_action false unexpected (transition association events.Data action state) action → Indicated false offset association pdv (Some (action, state)) reaction
other_action offset association pdv Dt2 state reaction unlike e = absurd (unlike refl)
other_action offset association pdv action state reaction unlike e = e

-- a fragment in a state in which no message is received
pub not_received : {A : Type 0} (offset : ℤ) (association : AssociationView A) (pdv : Pdv A) (cell : Option (UlAction × UlState)) (action : UlAction) (state : UlState) (mid : AssociationView A) (reaction : ReactionOf A) → cell ≡ Some (action, state) → action ≢ Dt2
    → mid ≡ transition association events.Data action state → reaction ≡ on_action false unexpected mid action → Indicated false offset association pdv cell reaction
not_received {A} offset association pdv cell action state mid reaction is unlike same e =
    subst (λ (o : Option (UlAction × UlState)). Indicated false offset association pdv o reaction) (sym is)
    (other_action offset association pdv action state reaction unlike (e ∙ ap (λ (a : AssociationView A). on_action false unexpected a action) same))
