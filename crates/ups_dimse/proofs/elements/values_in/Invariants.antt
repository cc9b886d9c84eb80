use Rattle.std.proofs.Common.{length}
use Rattle.ups_dimse.proofs.Sorting.{Passed}
use Rattle.ups_dimse.proofs.elements.values_in.Given as goal

abbrev pub invariant-loop-rest : goal.invariant-loop-rest
invariant-loop-rest l = Passed l.bytes l.from l.rest l.values

abbrev pub decreases-loop-rest : goal.decreases-loop-rest
decreases-loop-rest l = length l.rest
