use Rattle.ups_life.specs.declared.entry.Entry.{Entry}
use Rattle.ups_journal.specs.Columns.{recorded}
use Rattle.ups_journal.specs.Writable.{IsWritableEntry}
use Rattle.ups_restore.proofs.Between.{made_more, made_all, all_more, all_all}
use Rattle.ups_restore.proofs.lessening.records_of.Goals as goal

pub loop-entry-preserved : goal.loop-entry-preserved
loop-entry-preserved c = record {
  records =
      made_more recorded c.args.entries.now c.loop-entry.entry-index c.entry-item.result c.loop-entry.records.items c.add_record.new.records.items c.in_ok-stored.stored c.loop-entry-test.true c.entry-item.is c.loop-entry.invariant.records
      c.in_ok-stored.ensures.written c.in_ok-add_record.ensures;
  writable = all_more (λ (e : Entry _). IsWritableEntry e) c.args.entries.now c.loop-entry.entry-index c.entry-item.result c.loop-entry-test.true c.entry-item.is c.loop-entry.invariant.writable c.in_ok-stored.ensures.again;
}

pub returns : goal.returns
returns c = record {
  records = made_all recorded c.args.entries.now c.loop-entry.entry-index c.loop-entry.records.items c.loop-entry-test.false c.loop-entry.invariant.records;
  writable = all_all (λ (e : Entry _). IsWritableEntry e) c.args.entries.now c.loop-entry.entry-index c.loop-entry-test.false c.loop-entry.invariant.writable;
}
