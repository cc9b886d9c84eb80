use Rattle.std.proofs.Common.{rules}
use Rattle.ups_dimse.proofs.elements.element_at.Goals as goal

pub returns : goal.returns
returns c = search rules
