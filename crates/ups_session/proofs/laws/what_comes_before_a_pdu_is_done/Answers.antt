use Rattle.ups_session.proofs.Between.{before_pdu}
use Rattle.ups_session.proofs.laws.what_comes_before_a_pdu_is_done.Goals as goal

pub returns : goal.returns
returns g c = before_pdu
