use Rattle.std.proofs.Common.{take}
use Rattle.ups_dataset.specs.Data.{items_of}
use Rattle.ups_dataset.specs.Valid.{AreSets}
use Rattle.ups_dataset.proofs.set.Value.items_are_sets.Given as goal

abbrev pub invariant-loop-set : goal.invariant-loop-set
invariant-loop-set g l = AreSets (items_of (take l.set-index l.set-items))
