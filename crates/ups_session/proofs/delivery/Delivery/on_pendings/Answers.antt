use Rattle.std.proofs.Common.{◌∙◌, sym}
use Rattle.ups_session.specs.Deliveries.{delivery_view}
use Rattle.ups_session.proofs.Delivered.{pendings_silent}
use Rattle.ups_session.proofs.Parts.{if_ok}
use Rattle.ups_session.proofs.delivery.Delivery.on_pendings.Goals as goal

pub returns-in-Some-clause-reaction : goal.returns-in-Some-clause-reaction
returns-in-Some-clause-reaction g c = if_ok c.report_first.result _ _ (λ said e. e ∙ sym (c.in-Some.ensures.told (delivery_view c.args.self.now))) c.report_first.ensures.reaction

pub returns-in-Some-clause-silent : goal.returns-in-Some-clause-silent
returns-in-Some-clause-silent g c = pendings_silent (delivery_view c.args.self.now) c.args.reply

pub returns-in-None-clause-reaction : goal.returns-in-None-clause-reaction
returns-in-None-clause-reaction g c = if_ok c.release.result _ _ (λ said e. e ∙ sym (c.in-None.ensures.told (delivery_view c.args.self.now))) c.release.ensures.reaction

pub returns-in-None-clause-silent : goal.returns-in-None-clause-silent
returns-in-None-clause-silent g c = pendings_silent (delivery_view c.args.self.now) c.args.reply
