use Rattle.std.proofs.Common.{rules}
use Rattle.ups_requests.proofs.Exacting.{end_encoded}
use Rattle.ups_requests.proofs.asking.ending.Goals as goal

pub returns-clause-holds : goal.returns-clause-holds
returns-clause-holds g c = λ said. end_encoded _ _ _ _ _ _ _ (search rules) c.in_ok-instance.ensures.named.1 c.in_ok-receiver.ensures.word c.in_ok-put_argument.ensures
