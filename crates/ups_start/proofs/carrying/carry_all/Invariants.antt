use Rattle.std.proofs.Common.{◌≡◌, ◌≤◌, List, length, map, take}
use Rattle.std.specs.List.{All}
use Rattle.std.specs.declared.alloc.Global.{Global}
use Rattle.sqlite_trees.specs.View.{IsClean}
use Rattle.ups_life.specs.declared.entry.Entry.{Entry}
use Rattle.ups_life.specs.Steps.{past}
use Rattle.ups_journal.specs.Columns.{recorded}
use Rattle.ups_journal.specs.Writable.{IsWritableEntry}
use Rattle.ups_service.specs.Law.{is_legal}
use Rattle.ups_compact.specs.Compacting.{left_for}
use Rattle.ups_store.specs.Shown.{shown_by, all_of, given_out}
use Rattle.ups_start.specs.Digested.{IsDigested}
use Rattle.ups_start.specs.Started.{said}
use Rattle.ups_start.proofs.carrying.carry_all.Given as goal

abbrev pub invariant-loop-before : goal.invariant-loop-before
invariant-loop-before g l = record {
  carried : IsClean (shown_by l.reading.replay) → (h : List (Entry Global)) → All (λ (e : Entry Global). IsWritableEntry e) h → map recorded h ≡ said (all_of l.reading.replay) → is_legal l.initial.fresh.settings h
      → length l.fresh.history ≤ l.most → past l.fresh.history ≡ left_for l.initial.fresh.settings l.steps (past (take (length (given_out l.reading.replay)) h));
  same : IsClean (shown_by l.reading.replay) → all_of l.reading.replay ≡ all_of l.initial.reading.replay;
  clean : IsClean (shown_by l.reading.replay) → IsClean (shown_by l.initial.reading.replay);
  settings : l.fresh.settings ≡ l.initial.fresh.settings;
  digested : IsDigested l.reading;
}
