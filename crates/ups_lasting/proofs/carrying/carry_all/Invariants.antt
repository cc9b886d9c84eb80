use Rattle.std.proofs.Common.{◌≡◌, ◌++◌, List, map, take}
use Rattle.std.specs.List.{All}
use Rattle.std.specs.Global.{Global}
use Rattle.ups_life.specs.declared.entry.Entry.{Entry}
use Rattle.ups_life.specs.Steps.{past}
use Rattle.ups_journal.specs.Columns.{recorded}
use Rattle.ups_journal.specs.Writable.{IsWritableEntry}
use Rattle.ups_service.specs.Law.{is_legal}
use Rattle.ups_compact.specs.Compacting.{left_for}
use Rattle.ups_lasting.proofs.carrying.carry_all.Given as goal

abbrev pub invariant-loop-stored : goal.invariant-loop-stored
invariant-loop-stored l = record {
  carried : (front es : List (Entry Global)) → All (λ (e : Entry Global). IsWritableEntry e) es → map recorded es ≡ l.records → is_legal l.initial.fresh.settings (front ++ es)
      → past l.initial.fresh.history ≡ left_for l.initial.fresh.settings l.steps (past front) → past l.fresh.history ≡ left_for l.initial.fresh.settings l.steps (past (front ++ take l.stored-index es));
  settings : l.fresh.settings ≡ l.initial.fresh.settings;
}
