use Rattle.ups_ledger.proofs.Growing.{one_more, all_taken}
use Rattle.ups_ledger.proofs.recorder.records_of.Goals as goal

pub loop-entry-preserved : goal.loop-entry-preserved
loop-entry-preserved g c = one_more c.loop-entry.records.items c.add_record.new.records.items c.args.entries.now c.loop-entry.entry-index c.entry-item.result c.in_ok-stored.stored c.loop-entry-test.true c.entry-item.is c.loop-entry.invariant c.in_ok-stored.ensures.written c.in_ok-add_record.ensures

pub returns : goal.returns
returns g c = all_taken c.loop-entry.records.items c.args.entries.now c.loop-entry.entry-index c.loop-entry-test.false c.loop-entry.invariant
