use Rattle.ups_session.proofs.Counting.{asks_counted}
use Rattle.ups_session.proofs.laws.a_session_takes_a_call_for_each_ask.Goals as goal

pub returns : goal.returns
returns g c = asks_counted
