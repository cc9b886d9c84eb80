use Rattle.std.proofs.Common.{◌≡◌, take}
use Rattle.std.specs.List.{flat_map}
use Rattle.std.specs.Option.{option_to_list}
use Rattle.ups_assoc.specs.Contexts.{accepted}
use Rattle.ups_assoc.proofs.negotiating.accepted_of.Given as goal

abbrev pub invariant-loop-context : goal.invariant-loop-context
invariant-loop-context g l = l.contexts.items ≡ flat_map (λ c. option_to_list (accepted c)) (take l.context-index l.proposed)
