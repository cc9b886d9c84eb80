use Rattle.ups_dataset.proofs.Laying.{element_at-put}
use Rattle.ups_dataset.proofs.laws.what_was_put_is_found.Goals as goal

pub returns : goal.returns
returns c = element_at-put
