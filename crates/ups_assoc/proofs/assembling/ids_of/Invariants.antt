use Rattle.std.proofs.Common.{◌≡◌, map, take}
use Rattle.ups_assoc.proofs.assembling.ids_of.Given as goal

abbrev pub invariant-loop-context : goal.invariant-loop-context
invariant-loop-context g l = l.ids.items ≡ map (λ c. c.id) (take l.context-index l.contexts)
