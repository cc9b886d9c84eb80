use Rattle.std.proofs.Common.{rules}
use Rattle.ups_assoc.proofs.negotiating.Rejection.reason.Goals as goal

pub returns-in-CalledAeNotRecognized : goal.returns-in-CalledAeNotRecognized
returns-in-CalledAeNotRecognized c = search rules
