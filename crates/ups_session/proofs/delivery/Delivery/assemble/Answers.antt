use Rattle.ups_assoc.specs.Feeding.{fed}
use Rattle.ups_session.specs.Effects.{established_view}
use Rattle.ups_session.specs.Deliveries.{delivery_view}
use Rattle.ups_session.proofs.Delivered.{more_came, whole_came, fault_came}
use Rattle.ups_session.proofs.Parts.{if_ok}
use Rattle.ups_session.proofs.delivery.Delivery.assemble.Goals as goal

pub returns-in-Ok-Some-clause-reaction : goal.returns-in-Ok-Some-clause-reaction
returns-in-Ok-Some-clause-reaction g c =
    if_ok c.on_message.result _ _
    (λ found h. whole_came (delivery_view c.args.self.now) (established_view c.args.established) c.args.released (fed c.args.established.assembler.ids c.args.established.assembler.begun c.args.pdv) c.feed-came.new.self c.in-Ok-Some.field-0 c.in-Ok-Some.message _
    c.in-Ok-Some.field-0-is c.feed-came.ensures.ids c.in-Ok-Some.ensures.feeds h)
    c.on_message.ensures.reaction

pub returns-in_ok-abort-in-Err-clause-reaction : goal.returns-in_ok-abort-in-Err-clause-reaction
returns-in_ok-abort-in-Err-clause-reaction g c =
    fault_came (delivery_view c.args.self.now) (established_view c.args.established) c.args.released (fed c.args.established.assembler.ids c.args.established.assembler.begun c.args.pdv) c.feed-came.new.self c.in-Err.fault _
    c.feed-came.ensures.ids c.in-Err.ensures.feeds c.in_ok-unless_memory-in-Err.ensures.other c.in_ok-abort-in-Err.ensures.reaction

pub returns-in-Ok-None-clause-reaction : goal.returns-in-Ok-None-clause-reaction
returns-in-Ok-None-clause-reaction g c =
    more_came (delivery_view c.args.self.now) (established_view c.args.established) c.args.released (fed c.args.established.assembler.ids c.args.established.assembler.begun c.args.pdv) c.feed-came.new.self c.new.result.items
    c.feed-came.ensures.ids (rw c.in-Ok-None.field-0-is at c.in-Ok-None.ensures.feeds) c.new.ensures.items
