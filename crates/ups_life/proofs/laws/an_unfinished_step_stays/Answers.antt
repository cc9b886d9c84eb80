use Rattle.ups_life.proofs.Retained.{early_stays}
use Rattle.ups_life.proofs.laws.an_unfinished_step_stays.Goals as goal

pub returns : goal.returns
returns g c = early_stays
