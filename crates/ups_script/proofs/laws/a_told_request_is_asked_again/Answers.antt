use Rattle.ups_script.proofs.Told.{told_again}
use Rattle.ups_script.proofs.laws.a_told_request_is_asked_again.Goals as goal

pub returns : goal.returns
returns g c = told_again
