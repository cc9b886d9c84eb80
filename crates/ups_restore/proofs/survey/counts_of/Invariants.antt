use Rattle.std.proofs.Common.{◌≡◌, take}
use Rattle.ups_life.specs.Steps.{past}
use Rattle.ups_restore.specs.Surveying.{counts_in}
use Rattle.ups_restore.proofs.survey.counts_of.Given as goal

abbrev pub invariant-loop-peer : goal.invariant-loop-peer
invariant-loop-peer l = l.counts.items ≡ counts_in l.manager.settings (past l.manager.history) (take l.peer-index l.peers)
