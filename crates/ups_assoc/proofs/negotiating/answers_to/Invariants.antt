use Rattle.std.proofs.Common.{◌≡◌, ◌<◌, map, take}
use Rattle.std.specs.List.{AllByRecursion}
use Rattle.ups_assoc.specs.Contexts.{answered}
use Rattle.ups_assoc.proofs.negotiating.answers_to.Given as goal

abbrev pub invariant-loop-context : goal.invariant-loop-context
invariant-loop-context g l = (l.answers.items ≡ map answered (take l.context-index l.proposed)) × AllByRecursion (λ c. c.id < 256) l.answers.items
