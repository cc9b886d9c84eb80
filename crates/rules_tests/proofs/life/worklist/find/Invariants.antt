use Rattle.std.proofs.Common.{take, All}
use Rattle.ups_life.specs.Settings.{IsMoment}
use Rattle.rules_tests.proofs.life.worklist.find.Given as goal

abbrev pub invariant-loop-entry : goal.invariant-loop-entry
invariant-loop-entry g l = All (λ e. IsMoment e.moment) (take l.entry-index l.entries)
