use Rattle.std.proofs.Common.{length}
use Rattle.ups_lines.proofs.Decoding.{LeavesFor}
use Rattle.ups_lines.proofs.text.Text.put.Given as goal

abbrev pub invariant-loop-front : goal.invariant-loop-front
invariant-loop-front g l = LeavesFor l.self.written.now l.rest l.fn.out.items l.out.items

abbrev pub decreases-loop-front : goal.decreases-loop-front
decreases-loop-front g l = length l.rest
