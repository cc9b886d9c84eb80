use Rattle.std.proofs.Common.{◌≡◌, take}
use Rattle.ups_life.specs.Steps.{past}
use Rattle.ups_life.specs.Watching.{held}
use Rattle.ups_plain.proofs.walking.plain_held.Given as goal

abbrev pub invariant-loop-place : goal.invariant-loop-place
invariant-loop-place g l = l.steps.items ≡ held l.configuration (past (take l.place l.entries))
