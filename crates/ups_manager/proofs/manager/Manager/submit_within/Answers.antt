use Rattle.std.proofs.Common.{subst}
use Rattle.ups_life.specs.declared.request.Ask.TheVariants.{Do}
use Rattle.ups_service.specs.Law.{Answers}
use Rattle.ups_manager.specs.View.{ManagerView}
use Rattle.ups_manager.proofs.manager.Manager.submit_within.Goals as goal

pub returns-clause-answer : goal.returns-clause-answer
returns-clause-answer g c =
    let call = c.args.call in
    subst (λ (st : ManagerView g.row.A.Denot). Answers st.settings st.history call.caller call.ae call.moment (Do call.request) c.answer_call.result) c.self.view_is c.answer_call.ensures.answer
