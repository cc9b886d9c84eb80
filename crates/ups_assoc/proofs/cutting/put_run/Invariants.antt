use Rattle.std.proofs.Common.{◌≡◌, ℕ, ◌≤◌, ◌++◌, length}
use Rattle.ups_assoc.specs.Cutting.{fragments}
use Rattle.ups_assoc.proofs.cutting.put_run.Given as goal

abbrev pub invariant-loop-rest : goal.invariant-loop-rest
invariant-loop-rest g l = (most : ℕ) × (length l.rest ≤ most) × (l.fn.out.items ++ fragments (length l.bytes) l.size l.context l.command l.bytes ≡ l.out.items ++ fragments most l.size l.context l.command l.rest)

abbrev pub decreases-loop-rest : goal.decreases-loop-rest
decreases-loop-rest g l = length l.rest
