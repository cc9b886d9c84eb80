use Rattle.ups_start.specs.Digested.{IsDigested}
use Rattle.ups_start.proofs.granting.count_asked.Given as goal

abbrev pub invariant-loop : goal.invariant-loop
invariant-loop g l = IsDigested l.reading
