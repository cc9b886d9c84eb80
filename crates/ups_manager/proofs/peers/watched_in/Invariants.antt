use Rattle.std.proofs.Common.{◌≡◌, None, take}
use Rattle.std.specs.List.{filter_map}
use Rattle.ups_life.specs.Watching.{watched_step}
use Rattle.ups_tables.specs.Fit.{how}
use Rattle.ups_tables.specs.Places.{by_place}
use Rattle.ups_manager.proofs.peers.watched_in.Given as goal

abbrev pub invariant-loop-step : goal.invariant-loop-step
invariant-loop-step g l = l.found.items ≡ filter_map (λ u. watched_step u (by_place None (λ p. how l.tables p u) l.place)) (take l.step-index l.steps)
