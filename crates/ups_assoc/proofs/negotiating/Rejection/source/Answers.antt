use Rattle.std.proofs.Common.{rules}
use Rattle.ups_assoc.proofs.negotiating.Rejection.source.Goals as goal

pub returns-in_default : goal.returns-in_default
returns-in_default c = search rules
