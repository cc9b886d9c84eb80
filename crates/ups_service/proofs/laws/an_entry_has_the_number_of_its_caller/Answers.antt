use Rattle.ups_service.proofs.Legality.{entered_numbered}
use Rattle.ups_service.proofs.laws.an_entry_has_the_number_of_its_caller.Goals as goal

pub returns : goal.returns
returns g c = entered_numbered
