use Rattle.std.proofs.Common.{take}
use Rattle.ups_life.specs.Steps.{past}
use Rattle.ups_life.specs.Telling.{AreWellFormed}
use Rattle.ups_life.proofs.laws.a_row_tells_its_state.Given as goal

abbrev pub invariant-loop-entry : goal.invariant-loop-entry
invariant-loop-entry g l = AreWellFormed (past (take l.entry-index l.history))
