use Rattle.std.proofs.Common.{rules}
use Rattle.ups_dimse.proofs.command.RequestCommand.answered.Goals as goal

pub returns-clause-operation : goal.returns-clause-operation
returns-clause-operation g c = search rules
