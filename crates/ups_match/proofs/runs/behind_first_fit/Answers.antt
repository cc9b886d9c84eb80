use Rattle.std.proofs.Common.{◌∙◌, ap}
use Rattle.ups_match.specs.Runs.{behind_first}
use Rattle.ups_match.proofs.Places.{skipped}
use Rattle.ups_match.proofs.runs.behind_first_fit.Goals as goal

pub loop-left-preserved : goal.loop-left-preserved
loop-left-preserved c =
    ap (behind_first c.args.run.now) c.split_at.ensures.back
    ∙ skipped c.args.run.now c.loop-left.left.now 128 (c.fits_nowhere_in_front.ensures.long c.loop-left-test.true) (c.fits_nowhere_in_front.ensures.nowhere c.loop-left-test.true)
    ∙ c.loop-left.invariant
