use Rattle.ups_compact.proofs.Shifted.{used_compacted_for}
use Rattle.ups_compact.proofs.laws.a_compaction_frees_no_uid.Goals as goal

pub returns : goal.returns
returns g c = used_compacted_for
