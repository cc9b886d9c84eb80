use Rattle.ups_service.proofs.OneClaim.{one_holder}
use Rattle.ups_service.proofs.laws.a_step_has_one_holder.Goals as goal

pub returns : goal.returns
returns g c = one_holder
