use Rattle.std.proofs.Common.{◌≡◌, length}
use Rattle.ups_steps.specs.Places.{held_in}
use Rattle.ups_steps.proofs.iter.IterIterator.next.Given as goal

abbrev pub invariant-loop-step : goal.invariant-loop-step
invariant-loop-step g l = held_in l.self-inside.places ≡ held_in l.initial.self-inside.places

abbrev pub decreases-loop-step : goal.decreases-loop-step
decreases-loop-step g l = length l.self-inside.places
