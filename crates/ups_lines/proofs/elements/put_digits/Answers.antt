use Rattle.std.proofs.Common.{rules}
use Rattle.ups_lines.proofs.Encoding.{none_read, pair_read, all_read}
use Rattle.ups_lines.proofs.elements.put_digits.Goals as goal

pub loop-pair-init : goal.loop-pair-init
loop-pair-init g c = none_read _ _

pub loop-pair-preserved : goal.loop-pair-preserved
loop-pair-preserved g c = rw c.in_ok-push.ensures.items (pair_read _ _ _ _ _ _ c.in-Some.ensures.pair c.loop-pair.invariant)

pub returns-then-is_empty : goal.returns-then-is_empty
returns-then-is_empty g c = all_read _ _ _ _ (search rules) c.loop-pair.invariant
