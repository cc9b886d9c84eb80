use Rattle.std.proofs.Common.{◌≡◌, length}
use Rattle.ups_pdu.specs.Padding.{is_space, without_trailing}
use Rattle.ups_pdu.proofs.ae.without_trailing_spaces.Given as goal

abbrev pub invariant-loop-last : goal.invariant-loop-last
invariant-loop-last l = without_trailing is_space l.bytes ≡ without_trailing is_space l.rest

abbrev pub decreases-loop-last : goal.decreases-loop-last
decreases-loop-last l = length l.rest
