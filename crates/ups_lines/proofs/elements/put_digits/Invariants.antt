use Rattle.std.proofs.Common.{length}
use Rattle.ups_lines.proofs.Encoding.{HasRead}
use Rattle.ups_lines.proofs.elements.put_digits.Given as goal

abbrev pub invariant-loop-pair : goal.invariant-loop-pair
invariant-loop-pair g l = HasRead l.digits l.rest l.fn.out.items l.out.items

abbrev pub decreases-loop-pair : goal.decreases-loop-pair
decreases-loop-pair g l = length l.rest
