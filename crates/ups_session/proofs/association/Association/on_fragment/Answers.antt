use Rattle.std.proofs.Common.{ap, false, true}
use Rattle.ups_ulstate.specs.declared.state.UlEvent.TheVariants as events
use Rattle.ups_ulstate.specs.Table.{next_of}
use Rattle.ups_session.specs.Effects.{association_view}
use Rattle.ups_session.proofs.Receiving.{not_received}
use Rattle.ups_session.proofs.association.Association.on_fragment.Goals as goal

pub returns-in_ok-on_action-in_default-action-clause-reaction : goal.returns-in_ok-on_action-in_default-action-clause-reaction
returns-in_ok-on_action-in_default-action-clause-reaction g c =
    not_received c.args.config.now.offset (association_view c.args.self.now) c.args.pdv (next_of false true events.Data c.args.self.now.state) c.in-Some.action c.in-Some.state (association_view c.transition.new.self) _
    (cc) c.in_default-action.not-Dt2 (ap association_view c.transition.ensures) c.in_ok-on_action-in_default-action.ensures.reaction
