use Rattle.std.proofs.Common.{◌≡◌}
use Rattle.std.specs.Prelude.{All}
use Rattle.sqlite_trees.specs.View.{IsClean}
use Rattle.ups_journal.specs.Writable.{IsWritableEntry}
use Rattle.ups_restore.specs.Leaving.{AreTaken}
use Rattle.ups_store.specs.Shown.{shown_by, all_of, given_out}
use Rattle.ups_start.specs.Digested.{IsDigested}
use Rattle.ups_start.specs.Started.{said}
use Rattle.ups_start.proofs.taking.take_all.Given as goal

abbrev pub invariant-loop-before : goal.invariant-loop-before
invariant-loop-before g l = record {
  taken : IsClean (shown_by l.reading.replay) → AreTaken l.initial.manager.settings l.initial.manager.history (said (given_out l.reading.replay)) l.may_leave_out l.counts l.manager.history;
  same : IsClean (shown_by l.reading.replay) → all_of l.reading.replay ≡ all_of l.initial.reading.replay;
  clean : IsClean (shown_by l.reading.replay) → IsClean (shown_by l.initial.reading.replay);
  settings : l.manager.settings ≡ l.initial.manager.settings;
  digested : IsDigested l.reading;
  written : All (λ e. IsWritableEntry e) l.initial.manager.history → All (λ e. IsWritableEntry e) l.manager.history;
}
