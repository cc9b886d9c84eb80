-- An association is over once its transport connection is closed.
use Rattle.std.proofs.Common.{◌≡◌, ℕ, Bool, true, false, List, [], ◌∷◌, None, Some, refl, sym, ◌∙◌, ap, subst}
use Rattle.ups_ulstate.specs.declared.state.UlState.{UlState}
use Rattle.ups_ulstate.specs.declared.state.UlState.TheVariants.{Sta1, Sta2, Sta3, Sta4, Sta5, Sta6, Sta7, Sta8, Sta9, Sta10, Sta11, Sta12, Sta13}
use Rattle.ups_ulstate.specs.declared.state.UlEvent.TheVariants.{TransportClosed}
use Rattle.ups_ulstate.specs.Table.{next_of}
use Rattle.ups_assoc.specs.declared.negotiating.Config.{Config}
use Rattle.ups_life.specs.declared.request.Reply.{Reply}
use Rattle.ups_session.specs.Association.{AssociationView}
use Rattle.ups_session.specs.Fold.{Visit, Reaction, Side, Settles, IsOpen}
use Rattle.ups_session.specs.Party.{IsOver}
use Rattle.ups_session.specs.Acceptor.{acceptor}
use Rattle.ups_session.specs.Sides.{ReactionOf, unexpected, on_event}
use Rattle.ups_session.specs.Delivery.{DeliveryView}
use Rattle.ups_session.specs.Requestor.{DeliveryReaction, requestor}

closing : {A : Type 0} (requestor : Bool) (association : AssociationView A) (s : UlState) → association.state ≡ s → IsOpen (on_event requestor unexpected association TransportClosed (next_of requestor true TransportClosed s)).association.state → ⊥
closing requestor association Sta1 is open_ = open_.connected is
closing requestor association Sta2 is open_ = open_.connected refl
closing requestor association Sta3 is open_ = open_.connected refl
closing requestor association Sta4 is open_ = open_.connected refl
closing requestor association Sta5 is open_ = open_.connected refl
closing requestor association Sta6 is open_ = open_.connected refl
closing requestor association Sta7 is open_ = open_.connected refl
closing requestor association Sta8 is open_ = open_.connected refl
closing requestor association Sta9 is open_ = open_.connected refl
closing requestor association Sta10 is open_ = open_.connected refl
closing requestor association Sta11 is open_ = open_.connected refl
closing requestor association Sta12 is open_ = open_.connected refl
closing requestor association Sta13 is open_ = open_.connected refl

asks_nothing : {A : Type 0} (requestor : Bool) (association : AssociationView A) (s : UlState) → (on_event requestor unexpected association TransportClosed (next_of requestor true TransportClosed s)).waiting ≡ None
asks_nothing requestor association Sta1 = refl
asks_nothing requestor association Sta2 = refl
asks_nothing requestor association Sta3 = refl
asks_nothing requestor association Sta4 = refl
asks_nothing requestor association Sta5 = refl
asks_nothing requestor association Sta6 = refl
asks_nothing requestor association Sta7 = refl
asks_nothing requestor association Sta8 = refl
asks_nothing requestor association Sta9 = refl
asks_nothing requestor association Sta10 = refl
asks_nothing requestor association Sta11 = refl
asks_nothing requestor association Sta12 = refl
asks_nothing requestor association Sta13 = refl

-- a reaction that asks nothing comes to what it leaves
settled : {A L W : Type 0} (side : Side A L W) (reaction : Reaction A L W) (replies : List (Reply A)) (visits : List (Visit A)) (after : L) → reaction.waiting ≡ None → Settles side reaction replies visits after → after ≡ reaction.association
settled side reaction [] visits after silent (none, says, is) = is
settled side reaction (reply ∷ replies) visits after silent (waiting, moment, next, more, asks_for, hears, on, says) = absurd (clash (sym asks_for ∙ silent))
  where
    clash : Some waiting ≡ None → ⊥
    clash e = cc

pub acceptor_over : {A : Type 0} (config : Config) → IsOver (acceptor {A = A} config)
acceptor_over {A} config association after visits (reaction, replies, reacts, settles) open_ =
    let silent = ap (λ (t : ReactionOf A). t.waiting) reacts ∙ asks_nothing false association association.state in
    let same = settled (acceptor config) reaction replies visits after silent settles ∙ ap (λ (t : ReactionOf A). t.association) reacts in
    closing false association association.state refl (subst (λ (l : AssociationView A). IsOpen l.state) same open_)

pub requestor_over : {A : Type 0} (config : Config) (ae : List ℕ) → IsOver (requestor {A = A} config ae)
requestor_over {A} config ae d after visits (reaction, replies, reacts, settles) open_ =
    let silent : reaction.waiting ≡ None = ap (λ (t : DeliveryReaction A). t.waiting) reacts in
    let same = settled (requestor config ae) reaction replies visits after silent settles ∙ ap (λ (t : DeliveryReaction A). t.association) reacts in
    closing true d.association d.association.state refl (subst (λ (l : DeliveryView A). IsOpen l.association.state) same open_)
