use Rattle.ups_service.proofs.Acknowledging.{receives_reported}
use Rattle.ups_service.proofs.laws.an_acknowledgement_receives_what_was_reported.Goals as goal

pub returns : goal.returns
returns g c = receives_reported
