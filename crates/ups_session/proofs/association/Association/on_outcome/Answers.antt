use Rattle.std.proofs.Common.{false, ap}
use Rattle.ups_ulstate.specs.declared.state.UlEvent.TheVariants as events
use Rattle.ups_ulstate.specs.Table.{next_of}
use Rattle.ups_session.specs.Acceptor.{is_acceptable}
use Rattle.ups_session.specs.Effects.{association_view}
use Rattle.ups_session.proofs.Accepting.{answered, not_answered}
use Rattle.ups_session.proofs.Parts.{if_ok}
use Rattle.ups_session.proofs.association.Association.on_outcome.Goals as goal

pub returns-in-Ae6-clause-reaction : goal.returns-in-Ae6-clause-reaction
returns-in-Ae6-clause-reaction g c =
    if_ok c.answer_request.result _ _
    (λ said e. answered (association_view c.args.self.now) c.args.outcome (next_of false (is_acceptable c.args.outcome) events.AssociateRq c.args.self.now.state) c.in-Some.action c.in-Some.state (association_view c.transition.new.self) _ (cc) c.in-Ae6.is (ap association_view c.transition.ensures) e)
    c.answer_request.ensures.reaction

pub returns-in_default-action-clause-reaction : goal.returns-in_default-action-clause-reaction
returns-in_default-action-clause-reaction g c =
    if_ok c.on_action.result _ _
    (λ said e. not_answered (association_view c.args.self.now) c.args.outcome (next_of false (is_acceptable c.args.outcome) events.AssociateRq c.args.self.now.state) c.in-Some.action c.in-Some.state (association_view c.transition.new.self) _ (cc) c.in_default-action.not-Ae6 (ap association_view c.transition.ensures) e)
    c.on_action.ensures.reaction
