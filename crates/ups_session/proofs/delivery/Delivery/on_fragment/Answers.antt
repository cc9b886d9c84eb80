use Rattle.std.proofs.Common.{ap}
use Rattle.ups_ulstate.specs.declared.state.UlEvent.TheVariants as events
use Rattle.ups_ulstate.specs.Table.{next_of}
use Rattle.std.proofs.Common.{true}
use Rattle.ups_session.specs.Effects.{association_view}
use Rattle.ups_session.specs.Deliveries.{delivery_view}
use Rattle.ups_session.proofs.Delivered.{not_received, received, received_late}
use Rattle.ups_session.proofs.Parts.{if_ok}
use Rattle.ups_session.proofs.delivery.Delivery.on_fragment.Goals as goal

pub returns-in_ok-on_action-in_default-action-clause-reaction : goal.returns-in_ok-on_action-in_default-action-clause-reaction
returns-in_ok-on_action-in_default-action-clause-reaction g c =
    not_received (delivery_view c.args.self.now) c.args.pdv (next_of true true events.Data c.args.self.now.association.state) c.in-Some.action c.in-Some.state (association_view c.transition.new.self) _
    (cc) c.in_default-action.not-Dt2 c.in_default-action.not-Ar6 (ap association_view c.transition.ensures) c.in_ok-on_action-in_default-action.ensures.reaction

pub returns-in-Dt2-clause-reaction : goal.returns-in-Dt2-clause-reaction
returns-in-Dt2-clause-reaction g c =
    if_ok c.receive.result _ _
    (λ found r. received (delivery_view c.args.self.now) c.args.pdv (next_of true true events.Data c.args.self.now.association.state) c.in-Some.action c.in-Some.state (association_view c.transition.new.self) _ (cc) c.in-Dt2.is (ap association_view c.transition.ensures) r)
    c.receive.ensures.reaction

pub returns-in-Ar6-clause-reaction : goal.returns-in-Ar6-clause-reaction
returns-in-Ar6-clause-reaction g c =
    if_ok c.receive-in-Ar6.result _ _
    (λ found r. received_late (delivery_view c.args.self.now) c.args.pdv (next_of true true events.Data c.args.self.now.association.state) c.in-Some.action c.in-Some.state (association_view c.transition.new.self) _ (cc) c.in-Ar6.is (ap association_view c.transition.ensures) r)
    c.receive-in-Ar6.ensures.reaction
