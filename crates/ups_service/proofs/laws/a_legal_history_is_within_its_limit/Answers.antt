use Rattle.ups_service.proofs.Legality.{legal_within}
use Rattle.ups_service.proofs.laws.a_legal_history_is_within_its_limit.Goals as goal

pub returns : goal.returns
returns g c = legal_within
