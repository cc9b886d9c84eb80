use Rattle.std.proofs.Common.{rules}
use Rattle.ups_assoc.proofs.assembling.Assembler.new.Goals as goal

pub returns-clause-made : goal.returns-clause-made
returns-clause-made g c = search rules
