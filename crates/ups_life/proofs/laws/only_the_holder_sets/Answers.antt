use Rattle.ups_life.proofs.OneHolder.{sets_with_right}
use Rattle.ups_life.proofs.laws.only_the_holder_sets.Goals as goal

pub returns : goal.returns
returns g c = sets_with_right
