use Rattle.std.proofs.Common.{◌≡◌, take}
use Rattle.ups_restore.specs.declared.acknowledging.TheConstants.{COMPACTOR}
use Rattle.ups_restore.specs.Compacting.{known_behind, acks}
use Rattle.ups_restore.proofs.acknowledging.acknowledgements.Given as goal

abbrev pub invariant-loop-count : goal.invariant-loop-count
invariant-loop-count l = l.entries.items ≡ acks COMPACTOR l.moment (known_behind l.survey.settings l.survey.history l.fresh.history) (take l.count-index l.survey.settings.peers)
