use Rattle.std.proofs.Common.{◌<◌, ◌≢◌, ℕ}
use Rattle.std.specs.List.{AllByRecursion}
use Rattle.ups_life.specs.declared.event.Event.{Event}
use Rattle.ups_events.specs.Queue.{queue_at}
use Rattle.ups_events.proofs.queues.Queues.refers_to.Given as goal

abbrev pub invariant-loop-queue : goal.invariant-loop-queue
invariant-loop-queue g l = (p : ℕ) → p < l.queue-index → AllByRecursion (λ (x : Event). x.entry ≢ l.entry) (queue_at l.self p).events
