use Rattle.std.proofs.Common.{rules}
use Rattle.ups_assoc.proofs.negotiating.Rejection.result.Goals as goal

pub returns : goal.returns
returns c = search rules
