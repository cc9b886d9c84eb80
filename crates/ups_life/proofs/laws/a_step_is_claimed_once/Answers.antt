use Rattle.ups_life.specs.Steps.{past}
use Rattle.ups_life.proofs.OneHolder.{claimed_once}
use Rattle.ups_life.proofs.laws.a_step_is_claimed_once.Goals as goal

pub returns-clause-newest_first : goal.returns-clause-newest_first
returns-clause-newest_first g c = claimed_once

pub returns-clause-oldest_first : goal.returns-clause-oldest_first
returns-clause-oldest_first g c = λ s history. claimed_once s (past history)
