use Rattle.std.proofs.Common.{◌≡◌, ◌++◌, map}
use Rattle.ups_tables.specs.Taken.{taken_in, steps_in, report_of_row}
use Rattle.ups_tables.specs.Keyed.{as_steps}
use Rattle.ups_tables.proofs.choosing.chosen.Given as goal

abbrev pub invariant-loop-step : goal.invariant-loop-step
invariant-loop-step g l = record {
  steps : l.steps.items ++ steps_in (taken_in l.target (as_steps l.step-iterator)) ≡ steps_in (taken_in l.target (as_steps l.tables.steps.entries));
  news : l.news.items ++ map report_of_row (taken_in l.target (as_steps l.step-iterator)) ≡ map report_of_row (taken_in l.target (as_steps l.tables.steps.entries));
}
