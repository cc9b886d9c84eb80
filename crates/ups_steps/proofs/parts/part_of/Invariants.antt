use Rattle.std.proofs.Common.{◌≡◌, ◌-◌, ◌++◌, take, drop}
use Rattle.ups_rows.specs.Answering.{attributes_of_rows}
use Rattle.ups_steps.specs.Held.{attributes_held}
use Rattle.ups_steps.specs.Places.{held_in}
use Rattle.ups_steps.proofs.parts.part_of.Given as goal

abbrev pub invariant-loop-held : goal.invariant-loop-held
invariant-loop-held g l = attributes_of_rows l.rows.items ++ attributes_held l.held-iterator ≡ attributes_held (held_in (take (l.end - l.start) (drop l.start l.places.entries)))
