use Rattle.ups_session.proofs.Telling.{recorded}
use Rattle.ups_session.proofs.devices.ListGate.record.Goals as goal

pub returns-then-not-self-clause-tells : goal.returns-then-not-self-clause-tells
returns-then-not-self-clause-tells g c = recorded c.push.result c.args.self.now.calls.items _ c.args.call c.args.self.now.over c.is_err-self.result c.if-not-self.true c.push.ensures.items c.is_err-self.ensures.value
