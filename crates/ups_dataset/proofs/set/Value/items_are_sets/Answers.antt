use Rattle.ups_dataset.proofs.Places.{sets_more}
use Rattle.ups_dataset.proofs.set.Value.items_are_sets.Goals as goal

pub loop-set-preserved : goal.loop-set-preserved
loop-set-preserved g c = sets_more c.deref-set-items.result.now c.loop-set.set-index c.set-item.result c.loop-set-test.true c.set-item.is c.loop-set.invariant c.is_a_data_set.ensures
