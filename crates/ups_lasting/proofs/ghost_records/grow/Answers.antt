use Rattle.ups_lasting.proofs.Appending.{one_more}
use Rattle.ups_lasting.proofs.ghost_records.grow.Goals as goal

pub loop-stored-preserved : goal.loop-stored-preserved
loop-stored-preserved c = one_more _ _ _ c.args.records.now c.loop-stored.stored-index c.stored-item.result c.loop-stored-test.true c.stored-item.is c.and-more.ensures c.loop-stored.invariant
