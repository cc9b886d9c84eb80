use Rattle.ups_session.proofs.Closing.{requestor_over}
use Rattle.ups_session.proofs.requestor.RequestorParty.end.Goals as goal

pub returns-clause-over : goal.returns-clause-over
returns-clause-over g c = requestor_over c.args.self.now.config.now c.args.self.now.ae
