use Rattle.std.proofs.Common.{take}
use Rattle.ups_life.specs.Steps.{past}
use Rattle.ups_compact.specs.Shifting.{shift}
use Rattle.ups_restore.proofs.Between.{AreOfPeers}
use Rattle.ups_restore.proofs.lessening.shifts_between.Given as goal

abbrev pub invariant-loop-count : goal.invariant-loop-count
invariant-loop-count l = AreOfPeers (shift l.survey.settings (past l.fresh.history) (past l.survey.history)) (take l.count-index l.survey.settings.peers) l.shifts
