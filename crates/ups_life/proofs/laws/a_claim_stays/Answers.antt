use Rattle.ups_life.proofs.OneHolder.{claim_stays}
use Rattle.ups_life.proofs.laws.a_claim_stays.Goals as goal

pub returns : goal.returns
returns g c = claim_stays
