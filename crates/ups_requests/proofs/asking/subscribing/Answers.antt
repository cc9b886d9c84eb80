use Rattle.ups_requests.proofs.Exacting.{holds_subscription}
use Rattle.ups_requests.proofs.asking.subscribing.Goals as goal

pub returns-clause-holds : goal.returns-clause-holds
returns-clause-holds g c = holds_subscription _ _ _ _ _ _ _ c.message.result c.in_ok-instance.ensures.named.1 c.in_ok-receiver.ensures.word.1 c.in_ok-argument_of.ensures.word.1 c.message.ensures.holds
