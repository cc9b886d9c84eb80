use Rattle.std.proofs.Common.{length}
use Rattle.ups_lines.specs.Escapes.{IsText}
use Rattle.ups_lines.proofs.text.Text.of.Given as goal

abbrev pub invariant-loop-rest : goal.invariant-loop-rest
invariant-loop-rest l = (IsText l.rest → IsText l.written) × (IsText l.written → IsText l.rest)

abbrev pub decreases-loop-rest : goal.decreases-loop-rest
decreases-loop-rest l = length l.rest
