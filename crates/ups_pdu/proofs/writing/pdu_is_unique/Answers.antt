use Rattle.ups_pdu.proofs.Whole.{one_pdu}
use Rattle.ups_pdu.proofs.writing.pdu_is_unique.Goals as goal

pub returns : goal.returns
returns g c = λ bytes p q s t. one_pdu bytes p q s t
