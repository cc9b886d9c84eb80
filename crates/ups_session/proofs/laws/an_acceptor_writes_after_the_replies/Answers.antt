use Rattle.ups_session.proofs.Order.{acceptor_replies_first}
use Rattle.ups_session.proofs.laws.an_acceptor_writes_after_the_replies.Goals as goal

pub returns : goal.returns
returns g c = acceptor_replies_first
