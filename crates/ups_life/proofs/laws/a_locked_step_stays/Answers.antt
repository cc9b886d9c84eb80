use Rattle.ups_life.proofs.Retained.{locked_stays}
use Rattle.ups_life.proofs.laws.a_locked_step_stays.Goals as goal

pub returns : goal.returns
returns g c = locked_stays
