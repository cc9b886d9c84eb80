use Rattle.std.proofs.lemmas.Option.{IfSome_then}
use Rattle.ups_turn.proofs.Served.{call_serves}
use Rattle.ups_turn.proofs.at.AtService.answer.Goals as goal

pub returns-clause-serves : goal.returns-clause-serves
returns-clause-serves g c = IfSome_then c.args.ask.now c.call-reply.ensures.called (λ asked called. call_serves c.args.self.now.pass.now c.args.ae c.args.moment asked c.call-reply.result c.call-reply.new.pass called)
