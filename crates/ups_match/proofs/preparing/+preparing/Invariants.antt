use Rattle.std.proofs.Common.{◌+◌, ◌*◌}
use Rattle.ups_dataset.specs.Data.{weight, weight_data}
use Rattle.ups_dataset.specs.View.{value_view}
use Rattle.ups_match.proofs.PreparedWalks.{AreSoFar}
use Rattle.ups_match.proofs.preparing.+preparing.Given as goal

abbrev pub invariant-prepare_keys-loop-key : goal.invariant-prepare_keys-loop-key
invariant-prepare_keys-loop-key g l = AreSoFar l.prepared.items l.key-items l.key-index l.keys

abbrev pub decreases-prepare_keys : goal.decreases-prepare_keys
decreases-prepare_keys g l = 2 * weight l.keys.now + 1

abbrev pub decreases-prepare_key : goal.decreases-prepare_key
decreases-prepare_key g l = 2 * weight_data (value_view l.key.now.value)
