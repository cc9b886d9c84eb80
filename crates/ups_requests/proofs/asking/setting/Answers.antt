use Rattle.ups_requests.proofs.Exacting.{holds_setting}
use Rattle.ups_requests.proofs.asking.setting.Goals as goal

pub returns-clause-holds : goal.returns-clause-holds
returns-clause-holds g c = holds_setting _ _ _ _ _ c.message.result c.in_ok-instance.ensures.named.1 c.in_ok-transaction_of.ensures.word.1 c.message.ensures.holds
