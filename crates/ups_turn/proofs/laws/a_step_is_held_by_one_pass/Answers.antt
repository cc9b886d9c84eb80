use Rattle.ups_turn.proofs.Served.{one_pass}
use Rattle.ups_turn.proofs.laws.a_step_is_held_by_one_pass.Goals as goal

pub returns : goal.returns
returns g c = one_pass
