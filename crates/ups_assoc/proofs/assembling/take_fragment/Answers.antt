use Rattle.std.proofs.Common.{rules}
use Rattle.ups_assoc.proofs.assembling.take_fragment.Goals as goal

pub returns-else-pdv : goal.returns-else-pdv
returns-else-pdv g c = search rules
