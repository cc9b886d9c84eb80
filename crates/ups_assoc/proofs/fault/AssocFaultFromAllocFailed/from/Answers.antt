use Rattle.std.proofs.Common.{rules}
use Rattle.ups_assoc.proofs.fault.AssocFaultFromAllocFailed.from.Goals as goal

pub returns : goal.returns
returns g c = search rules
