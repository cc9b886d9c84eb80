use Rattle.std.proofs.Common.{◌≡◌, length}
use Rattle.std.specs.List.{list_all, slice_split}
use Rattle.ups_pdu.specs.Identifier.{is_dot, is_component}
use Rattle.ups_pdu.proofs.UidWalk.{goes}
use Rattle.ups_pdu.proofs.uid.are_components.Given as goal
use Rattle.std.proofs.Common.{true, false}

abbrev pub invariant-loop-digits : goal.invariant-loop-digits
invariant-loop-digits l = list_all is_component (slice_split is_dot l.text) ≡ goes true false l.rest

abbrev pub decreases-loop-digits : goal.decreases-loop-digits
decreases-loop-digits l = length l.rest
