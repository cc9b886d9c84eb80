use Rattle.std.proofs.Common.{◌≡◌, length}
use Rattle.ups_match.specs.Runs.{behind_first}
use Rattle.ups_match.proofs.runs.behind_first_by_place.Given as goal

abbrev pub invariant-loop-found : goal.invariant-loop-found
invariant-loop-found l = behind_first l.run l.left ≡ behind_first l.run l.text

abbrev pub decreases-loop-found : goal.decreases-loop-found
decreases-loop-found l = length l.left
