use Rattle.std.proofs.Common.{◌≡◌, map}
use Rattle.ups_start.specs.Granted.{as_granted}
use Rattle.ups_start.proofs.granting.all_as_granted.Given as goal

abbrev pub invariant-loop-asked : goal.invariant-loop-asked
invariant-loop-asked l = l.granted.items ≡ map (as_granted l.was l.peers) l.yielded
