use Rattle.ups_dataset.proofs.Whole.{one_set}
use Rattle.ups_dataset.proofs.laws.bytes_spell_one_set.Goals as goal

pub returns : goal.returns
returns c = one_set
