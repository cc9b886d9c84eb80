use Rattle.std.proofs.Common.{rules}
use Rattle.ups_dimse.proofs.fault.DimseFaultFromAllocError.from.Goals as goal

pub returns : goal.returns
returns c = search rules
