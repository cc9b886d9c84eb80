use Rattle.ups_lasting.proofs.Carried.{surveyed_none}
use Rattle.ups_lasting.proofs.moving.clear.Goals as goal

pub returns-then-branch-clause-agrees : goal.returns-then-branch-clause-agrees
returns-then-branch-clause-agrees g c = λ k. (surveyed_none _ _ _ c.in_ok-fresh.ensures.settings c.in_ok-fresh.ensures.history, c.in_ok-clear.ensures.none c.if-branch.true k)
