use Rattle.std.proofs.Common.{length, ◌+◌, ◌*◌, map}
use Rattle.ups_dataset.specs.View.{element_view}
use Rattle.ups_dataset.proofs.Growing.{ElementsGrow, ItemsGrow}
use Rattle.ups_dataset.proofs.building.+building.Given as goal

abbrev pub decreases-set_of : goal.decreases-set_of
decreases-set_of g l = 2 * length l.text.now

abbrev pub decreases-items_of : goal.decreases-items_of
decreases-items_of g l = 2 * length l.text.now

abbrev pub decreases-value_of : goal.decreases-value_of
decreases-value_of g l = 2 * length l.after.now + 1

abbrev pub invariant-set_of-loop-end : goal.invariant-set_of-loop-end
invariant-set_of-loop-end g l = ElementsGrow l.syntax l.level l.reach l.text l.from l.rest (map element_view l.elements.items)

abbrev pub decreases-set_of-loop-end : goal.decreases-set_of-loop-end
decreases-set_of-loop-end g l = length l.rest

abbrev pub invariant-items_of-loop-end : goal.invariant-items_of-loop-end
invariant-items_of-loop-end g l = ItemsGrow l.syntax l.level l.reach l.text l.rest l.sets.items

abbrev pub decreases-items_of-loop-end : goal.decreases-items_of-loop-end
decreases-items_of-loop-end g l = length l.rest
