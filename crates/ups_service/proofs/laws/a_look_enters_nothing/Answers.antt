use Rattle.ups_service.proofs.Looks.{look_enters_nothing}
use Rattle.ups_service.proofs.laws.a_look_enters_nothing.Goals as goal

pub returns : goal.returns
returns g c = look_enters_nothing
