use Rattle.ups_session.proofs.Closing.{acceptor_over}
use Rattle.ups_session.proofs.acceptor.AcceptorParty.end.Goals as goal

pub returns-clause-over : goal.returns-clause-over
returns-clause-over g c = acceptor_over c.args.self.now.config.now
