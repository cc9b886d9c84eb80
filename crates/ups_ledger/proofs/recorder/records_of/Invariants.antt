use Rattle.std.proofs.Common.{◌≡◌, map, take}
use Rattle.ups_journal.specs.Columns.{recorded}
use Rattle.ups_ledger.proofs.recorder.records_of.Given as goal

abbrev pub invariant-loop-entry : goal.invariant-loop-entry
invariant-loop-entry g l = l.records.items ≡ map recorded (take l.entry-index l.entries)
