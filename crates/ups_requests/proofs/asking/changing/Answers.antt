use Rattle.std.proofs.Common.{rules}
use Rattle.ups_requests.proofs.Exacting.{change_encoded}
use Rattle.ups_requests.proofs.asking.changing.Goals as goal

pub returns-clause-holds : goal.returns-clause-holds
returns-clause-holds g c = λ said. change_encoded _ _ _ _ _ _ _ _ _ _ (search rules) c.in_ok-instance.ensures.named.1 c.in_ok-state.ensures.word c.in_ok-transaction.ensures.word c.in_ok-put_transaction.ensures c.in_ok-put_argument.ensures
