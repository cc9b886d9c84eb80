use Rattle.ups_manager.proofs.Alone.{serves_alone}
use Rattle.ups_manager.proofs.service.ManagerService.answer.Goals as goal

pub returns-clause-serves : goal.returns-clause-serves
returns-clause-serves g c =
    let m = c.args.self.now in
    rw (← c.take.ensures.value, c.in-Some.is)
    (serves_alone m.settings 0 m.history c.answer_as.new.self.history c.args.ae c.args.moment c.in-Some.ask c.answer_as.result c.answer_as.ensures.legal c.answer_as.ensures.answer c.answer_as.ensures.history)
