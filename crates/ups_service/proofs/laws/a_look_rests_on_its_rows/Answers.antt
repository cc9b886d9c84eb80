use Rattle.ups_service.proofs.Looks.{looks_right}
use Rattle.ups_service.proofs.laws.a_look_rests_on_its_rows.Goals as goal

pub returns : goal.returns
returns g c = looks_right
