use Rattle.std.proofs.Common.{◌≡◌}
use Rattle.ups_start.specs.Started.{said}
use Rattle.ups_start.proofs.drafting.records_of.Given as goal

abbrev pub invariant-loop-request : goal.invariant-loop-request
invariant-loop-request l = l.records.items ≡ said l.yielded
