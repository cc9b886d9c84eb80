use Rattle.ups_life.proofs.Retained.{stays_away}
use Rattle.ups_life.proofs.laws.a_removed_step_stays_away.Goals as goal

pub returns : goal.returns
returns g c = stays_away
