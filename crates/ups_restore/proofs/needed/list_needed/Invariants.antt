use Rattle.std.proofs.Common.{◌≡◌, ◌++◌, take}
use Rattle.ups_life.specs.Steps.{past}
use Rattle.ups_life.specs.Watching.{held}
use Rattle.ups_compact.specs.Compacting.{steps_pending}
use Rattle.ups_restore.proofs.needed.list_needed.Given as goal

abbrev pub invariant-loop-peer : goal.invariant-loop-peer
invariant-loop-peer l =
    l.steps.items ≡ held l.manager.settings (past l.manager.history) ++ steps_pending l.manager.settings (past l.manager.history) (take l.peer-index l.peers)
