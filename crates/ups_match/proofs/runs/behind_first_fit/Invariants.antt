use Rattle.std.proofs.Common.{◌≡◌, length}
use Rattle.ups_match.specs.Runs.{behind_first}
use Rattle.ups_match.proofs.runs.behind_first_fit.Given as goal

abbrev pub invariant-loop-left : goal.invariant-loop-left
invariant-loop-left l = behind_first l.run l.left ≡ behind_first l.run l.text

abbrev pub decreases-loop-left : goal.decreases-loop-left
decreases-loop-left l = length l.left
