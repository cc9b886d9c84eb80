use Rattle.std.proofs.Common.{◌≡◌, ◌++◌, take}
use Rattle.sqlite_trees.specs.View.{IsClean}
use Rattle.ups_store.specs.Shown.{shown_by, given_out}
use Rattle.ups_start.specs.Started.{said}
use Rattle.ups_start.proofs.reopening.count_there.Given as goal

abbrev pub invariant-loop-place : goal.invariant-loop-place
invariant-loop-place g l = record {
  there : IsClean (shown_by l.reading.replay) → said (given_out l.reading.replay) ≡ said (given_out l.initial.reading.replay) ++ take l.place l.records;
  clean : IsClean (shown_by l.reading.replay) → IsClean (shown_by l.initial.reading.replay);
}
