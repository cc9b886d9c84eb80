use Rattle.std.proofs.Common.{arith}
use Rattle.ups_match.proofs.Fields.{microsecond_pairs}
use Rattle.ups_match.proofs.moments.microsecond_of.Goals as goal

pub returns-clause-value : goal.returns-clause-value
returns-clause-value c =
    let pairs = microsecond_pairs c.args.digits.now c.args.upper c.extreme-absent.result c.extreme-absent.ensures in
    omega arith
