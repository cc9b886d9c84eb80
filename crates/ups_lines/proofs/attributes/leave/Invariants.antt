use Rattle.std.proofs.Common.{length}
use Rattle.ups_lines.proofs.attributes.leave.Given as goal

abbrev pub invariant-loop-last : goal.invariant-loop-last
invariant-loop-last g l = Unit {0}

abbrev pub decreases-loop-last : goal.decreases-loop-last
decreases-loop-last g l = length l.round.items
