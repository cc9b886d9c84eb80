use Rattle.ups_pdu.proofs.ContextWays.{answer_at}
use Rattle.ups_pdu.proofs.context.AnsweredContextSpelled.spelled_by.Goals as goal

pub returns-in_err-id : goal.returns-in_err-id
returns-in_err-id c = rw c.from_residual.ensures (λ x s. c.in_err-id.ensures x.id s.outcome s.text s.head)

pub returns-in_err-answer : goal.returns-in_err-answer
returns-in_err-answer c = rw c.from_residual-in_err-answer.ensures (λ x s. c.in_err-answer.ensures x.answer (answer_at _ _ _ _ c.in_ok-id.ensures x s))
