use Rattle.std.proofs.Common.{◌≡◌, take}
use Rattle.ups_life.specs.Steps.{past, used}
use Rattle.ups_plain.proofs.rows.used.Given as goal

abbrev pub invariant-loop-entry : goal.invariant-loop-entry
invariant-loop-entry g l = l.found ≡ used (past (take l.entry-index l.history)) l.uid
