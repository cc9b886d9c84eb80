use Rattle.ups_session.proofs.Counting.{asks_alone}
use Rattle.ups_session.proofs.laws.a_session_alone_is_never_refused.Goals as goal

pub returns : goal.returns
returns g c = asks_alone
