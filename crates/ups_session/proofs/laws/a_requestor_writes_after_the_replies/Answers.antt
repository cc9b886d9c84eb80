use Rattle.ups_session.proofs.Order.{requestor_replies_first}
use Rattle.ups_session.proofs.laws.a_requestor_writes_after_the_replies.Goals as goal

pub returns : goal.returns
returns g c = requestor_replies_first
