use Rattle.std.proofs.Common.{ap, true}
use Rattle.ups_ulstate.specs.declared.state.UlEvent.TheVariants as events
use Rattle.ups_ulstate.specs.Table.{next_of}
use Rattle.ups_session.specs.Effects.{association_view}
use Rattle.ups_session.specs.Deliveries.{delivery_view}
use Rattle.ups_session.proofs.Delivered.{not_accepted, accepted}
use Rattle.ups_session.proofs.Parts.{if_ok}
use Rattle.ups_session.proofs.delivery.Delivery.on_answer.Goals as goal

pub returns-in_ok-on_action-in_default-action-clause-reaction : goal.returns-in_ok-on_action-in_default-action-clause-reaction
returns-in_ok-on_action-in_default-action-clause-reaction g c =
    not_accepted c.args.ae (delivery_view c.args.self.now) c.args.answer.now (next_of true true events.AssociateAc c.args.self.now.association.state) c.in-Some.action c.in-Some.state (association_view c.transition.new.self) _
    (cc) c.in_default-action.not-Ae3 (ap association_view c.transition.ensures) c.in_ok-on_action-in_default-action.ensures.reaction

pub returns-in-Ae3-clause-reaction : goal.returns-in-Ae3-clause-reaction
returns-in-Ae3-clause-reaction g c =
    if_ok c.establish.result _ _
    (λ found e. accepted c.args.ae (delivery_view c.args.self.now) c.args.answer.now (next_of true true events.AssociateAc c.args.self.now.association.state) c.in-Some.action c.in-Some.state (association_view c.transition.new.self) _ (cc) c.in-Ae3.is (ap association_view c.transition.ensures) e)
    c.establish.ensures.reaction
