use Rattle.std.proofs.Common.{◌≡◌, length}
use Rattle.ups_match.specs.Runs.{behind_front}
use Rattle.ups_match.proofs.runs.behind_front.Given as goal

abbrev pub invariant-loop-p : goal.invariant-loop-p
invariant-loop-p l = behind_front l.run_left l.left ≡ behind_front l.run l.text

abbrev pub decreases-loop-p : goal.decreases-loop-p
decreases-loop-p l = length l.run_left
