use Rattle.std.proofs.Common.{◌≡◌, not, filter, take}
use Rattle.ups_life.specs.Steps.{past}
use Rattle.ups_life.specs.Watching.{is_due}
use Rattle.ups_plain.proofs.walking.left.Given as goal

abbrev pub invariant-loop-step : goal.invariant-loop-step
invariant-loop-step g l = l.left.items ≡ filter (λ u. not (is_due l.configuration (past l.entries) l.moment u)) (take l.step-index l.steps)
