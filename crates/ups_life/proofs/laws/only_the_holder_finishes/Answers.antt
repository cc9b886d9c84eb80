use Rattle.ups_life.proofs.OneHolder.{finishes_with_right}
use Rattle.ups_life.proofs.laws.only_the_holder_finishes.Goals as goal

pub returns : goal.returns
returns g c = finishes_with_right
