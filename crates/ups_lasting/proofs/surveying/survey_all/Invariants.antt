use Rattle.std.proofs.Common.{◌≡◌, ◌+◌, ◌++◌, List, length, map, take}
use Rattle.std.specs.List.{All}
use Rattle.std.specs.Global.{Global}
use Rattle.ups_life.specs.declared.entry.Entry.{Entry}
use Rattle.ups_journal.specs.Columns.{recorded}
use Rattle.ups_journal.specs.Writable.{IsWritableEntry}
use Rattle.ups_lasting.proofs.surveying.survey_all.Given as goal

abbrev pub invariant-loop-stored : goal.invariant-loop-stored
invariant-loop-stored l = record {
  entered : (es : List (Entry Global)) → All (λ (e : Entry Global). IsWritableEntry e) es → map recorded es ≡ l.records → l.whole.history ≡ l.initial.whole.history ++ take l.stored-index es;
  more : length l.whole.history ≡ length l.initial.whole.history + l.stored-index;
  settings : l.whole.settings ≡ l.initial.whole.settings;
}
