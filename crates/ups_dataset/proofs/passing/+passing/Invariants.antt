use Rattle.std.proofs.Common.{length, ◌+◌, ◌*◌}
use Rattle.ups_dataset.proofs.Going.{ElementsGo, ItemsGo}
use Rattle.ups_dataset.proofs.passing.+passing.Given as goal

abbrev pub decreases-elements_end : goal.decreases-elements_end
decreases-elements_end l = 2 * length l.text.now

abbrev pub decreases-items_end : goal.decreases-items_end
decreases-items_end l = 2 * length l.text.now

abbrev pub decreases-value_end : goal.decreases-value_end
decreases-value_end l = 2 * length l.after.now + 1

abbrev pub invariant-elements_end-loop-end : goal.invariant-elements_end-loop-end
invariant-elements_end-loop-end l = ElementsGo l.syntax l.level l.reach l.text l.from l.rest

abbrev pub decreases-elements_end-loop-end : goal.decreases-elements_end-loop-end
decreases-elements_end-loop-end l = length l.rest

abbrev pub invariant-items_end-loop-end : goal.invariant-items_end-loop-end
invariant-items_end-loop-end l = ItemsGo l.syntax l.level l.reach l.text l.rest

abbrev pub decreases-items_end-loop-end : goal.decreases-items_end-loop-end
decreases-items_end-loop-end l = length l.rest
