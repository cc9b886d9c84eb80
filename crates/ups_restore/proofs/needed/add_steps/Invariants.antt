use Rattle.std.proofs.Common.{◌≡◌, ◌++◌, take}
use Rattle.ups_compact.specs.Compacting.{steps_of_events}
use Rattle.ups_restore.proofs.needed.add_steps.Given as goal

abbrev pub invariant-loop-event : goal.invariant-loop-event
invariant-loop-event l = l.steps.items ≡ l.initial.steps.items ++ steps_of_events (take l.event-index l.events)
