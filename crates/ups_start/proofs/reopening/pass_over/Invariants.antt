use Rattle.std.proofs.Common.{◌≡◌, ◌+◌, length}
use Rattle.sqlite_trees.specs.View.{IsClean}
use Rattle.ups_store.specs.Shown.{shown_by, given_out}
use Rattle.ups_start.specs.Digested.{IsDigested}
use Rattle.ups_start.specs.Started.{said}
use Rattle.ups_start.proofs.reopening.pass_over.Given as goal

abbrev pub invariant-loop-passed : goal.invariant-loop-passed
invariant-loop-passed g l = record {
  passed : IsClean (shown_by l.reading.replay) → length (said (given_out l.reading.replay)) ≡ length (said (given_out l.initial.reading.replay)) + l._passed;
  clean : IsClean (shown_by l.reading.replay) → IsClean (shown_by l.initial.reading.replay);
  digested : IsDigested l.initial.reading → IsDigested l.reading;
}
