use Rattle.std.proofs.Common.{◌≡◌, length}
use Rattle.ups_pdu.specs.Padding.{without_padding}
use Rattle.ups_pdu.proofs.text.without_padding.Given as goal

abbrev pub invariant-loop-last : goal.invariant-loop-last
invariant-loop-last l = without_padding l.bytes ≡ without_padding l.rest

abbrev pub decreases-loop-last : goal.decreases-loop-last
decreases-loop-last l = length l.rest
