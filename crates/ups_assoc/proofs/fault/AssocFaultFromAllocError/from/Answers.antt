use Rattle.std.proofs.Common.{rules}
use Rattle.ups_assoc.proofs.fault.AssocFaultFromAllocError.from.Goals as goal

pub returns : goal.returns
returns c = search rules
