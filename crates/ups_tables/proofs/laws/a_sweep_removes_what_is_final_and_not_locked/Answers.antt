use Rattle.ups_tables.proofs.Living.{due-live}
use Rattle.ups_tables.proofs.laws.a_sweep_removes_what_is_final_and_not_locked.Goals as goal

pub returns : goal.returns
returns g c = due-live
