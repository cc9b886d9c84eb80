use Rattle.ups_dataset.proofs.Laying.{element_at-laid_over}
use Rattle.ups_dataset.proofs.laws.what_is_laid_over_is_found.Goals as goal

pub returns : goal.returns
returns c = element_at-laid_over 0
