use Rattle.ups_dataset.specs.Dictionary.{vr_of}
use Rattle.ups_dataset.proofs.dictionary.vr_of.Goals as goal

pub returns : goal.returns
unfolding vr_of
returns c = c.vr_in.ensures
