use Rattle.ups_assoc.specs.Feeding.{fed}
use Rattle.ups_session.specs.Effects.{established_view}
use Rattle.ups_session.proofs.Receiving.{whole_came}
use Rattle.ups_session.proofs.association.on_pdv.Goals as goal

pub returns-in-Ok-Some-clause-effect : goal.returns-in-Ok-Some-clause-effect
returns-in-Ok-Some-clause-effect g c =
    whole_came c.args.config.now.offset (established_view c.args.established.now) (fed c.args.established.now.assembler.ids c.args.established.now.assembler.begun c.args.pdv) c.feed.new.self c.in-Ok-Some.field-0 c.in-Ok-Some.message c.on_message.result
    c.in-Ok-Some.field-0-is c.feed.ensures.ids c.in-Ok-Some.ensures.feeds c.on_message.ensures.effect
