use Rattle.ups_compact.specs.Shifts.{less_by}
use Rattle.ups_restore.specs.Lessening.{lessened}
use Rattle.ups_restore.proofs.Between.{made_more, made_all}
use Rattle.ups_restore.proofs.lessening.lessen_all.Goals as goal

pub loop-stored-preserved : goal.loop-stored-preserved
loop-stored-preserved c =
    made_more (lessened (less_by c.args.shifts.now)) c.args.records.now c.loop-stored.stored-index c.stored-item.result c.loop-stored.copies.items c.add_record.new.records.items c.in_ok-copy.copy c.loop-stored-test.true c.stored-item.is
    c.loop-stored.invariant c.in_ok-copy.ensures c.in_ok-add_record.ensures

pub returns : goal.returns
returns c = made_all (lessened (less_by c.args.shifts.now)) c.args.records.now c.loop-stored.stored-index c.loop-stored.copies.items c.loop-stored-test.false c.loop-stored.invariant
