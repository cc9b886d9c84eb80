use Rattle.std.proofs.Common.{rules}
use Rattle.ups_dimse.proofs.fault.DimseFaultFromAllocFailed.from.Goals as goal

pub returns : goal.returns
returns g c = search rules
