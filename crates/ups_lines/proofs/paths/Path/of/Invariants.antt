use Rattle.std.proofs.Common.{length}
use Rattle.ups_lines.proofs.paths.Path.of.Given as goal

abbrev pub invariant-loop-part : goal.invariant-loop-part
invariant-loop-part l = Unit {0}

abbrev pub decreases-loop-part : goal.decreases-loop-part
decreases-loop-part l = length l.rest
