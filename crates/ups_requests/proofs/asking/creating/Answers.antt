use Rattle.ups_requests.proofs.Exacting.{holds_create}
use Rattle.ups_requests.proofs.asking.creating.Goals as goal

pub returns-clause-holds : goal.returns-clause-holds
returns-clause-holds g c = holds_create _ _ _ c.message.result c.in_ok-instance.ensures.named.1 c.message.ensures.holds
