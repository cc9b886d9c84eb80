use Rattle.ups_service.proofs.Legality.{beginning_legal}
use Rattle.ups_service.proofs.laws.a_beginning_of_a_legal_history_is_legal.Goals as goal

pub returns : goal.returns
returns g c = beginning_legal
