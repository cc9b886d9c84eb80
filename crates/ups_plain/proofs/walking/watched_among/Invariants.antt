use Rattle.std.proofs.Common.{◌≡◌, take}
use Rattle.std.specs.List.{filter_map}
use Rattle.ups_life.specs.Steps.{past}
use Rattle.ups_life.specs.Watching.{watch, watched_step}
use Rattle.ups_plain.proofs.walking.watched_among.Given as goal

abbrev pub invariant-loop-step : goal.invariant-loop-step
invariant-loop-step g l = l.found.items ≡ filter_map (λ u. watched_step u (watch l.configuration (past l.entries) l.ae u)) (take l.step-index l.steps)
