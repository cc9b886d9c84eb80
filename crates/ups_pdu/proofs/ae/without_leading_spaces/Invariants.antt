use Rattle.std.proofs.Common.{◌≡◌, length}
use Rattle.ups_pdu.specs.Padding.{is_space, without_leading}
use Rattle.ups_pdu.proofs.ae.without_leading_spaces.Given as goal

abbrev pub invariant-loop-first : goal.invariant-loop-first
invariant-loop-first l = without_leading is_space l.bytes ≡ without_leading is_space l.rest

abbrev pub decreases-loop-first : goal.decreases-loop-first
decreases-loop-first l = length l.rest
