-- The views of the program's types of a delivery.
use Rattle.std.specs.Prelude.{drop}
use Rattle.ups_session.specs.declared.delivery.Delivery.{Delivery}
use Rattle.ups_session.specs.declared.delivery.DeliveryCall.{DeliveryCall}
use Rattle.ups_session.specs.declared.effect.Effect.{Effect}
use Rattle.ups_session.specs.declared.effect.Effect.TheVariants.{Respond}
use Rattle.ups_session.specs.Delivery.{DeliveryView}
use Rattle.ups_session.specs.Effects.{association_view}
use Rattle.ups_session.specs.Party.{reaction_with, CanSend}
use Rattle.ups_session.specs.Requestor.{DeliveryReaction}

-- the view of a delivery: the reports ahead are those of the last reply that come after those already sent
abbrev pub delivery_view : {A : Type 0} → Delivery A → DeliveryView A
delivery_view delivery = record { association = association_view delivery.association; ahead = drop delivery.taken delivery.reports; in_flight = delivery.in_flight; sent = delivery.sent }

-- the reaction with this effect
abbrev pub delivery_reaction_of : {A : Type 0} → DeliveryView A → Effect A DeliveryCall → DeliveryReaction A
delivery_reaction_of d effect = reaction_with (λ call. call) d effect

-- each PDU that the effect sends can be written; and the effect is no response
abbrev pub IsSendableDelivery : {A : Type 0} → Effect A DeliveryCall → Type 0
IsSendableDelivery (Respond response) = ⊥
IsSendableDelivery effect = CanSend (λ call. Unit {0}) effect
