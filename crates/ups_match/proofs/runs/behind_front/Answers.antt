use Rattle.std.proofs.Common.{sym, arith}
use Rattle.ups_match.proofs.Places.{too_short}
use Rattle.ups_match.proofs.runs.behind_front.Goals as goal

pub returns-then-text-run : goal.returns-then-text-run
returns-then-text-run c =
    let short = c.if-text-run.true in
    sym (too_short c.args.run.now c.args.text.now (omega arith))
