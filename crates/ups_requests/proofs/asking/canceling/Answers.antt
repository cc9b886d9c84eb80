use Rattle.ups_requests.proofs.Exacting.{holds_cancel}
use Rattle.ups_requests.proofs.asking.canceling.Goals as goal

pub returns-clause-holds : goal.returns-clause-holds
returns-clause-holds g c = holds_cancel _ _ _ c.message.result c.in_ok-instance_of.ensures.named.1 c.message.ensures.holds
