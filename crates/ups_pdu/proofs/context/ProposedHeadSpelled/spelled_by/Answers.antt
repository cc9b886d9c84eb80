use Rattle.ups_pdu.proofs.ContextWays.{syntaxes_at}
use Rattle.ups_pdu.proofs.context.ProposedHeadSpelled.spelled_by.Goals as goal

pub returns-in_err-id : goal.returns-in_err-id
returns-in_err-id c = rw c.from_residual.ensures (λ head s. c.in_err-id.ensures head.id s.is.reserved s.is.text s.is.head)

pub returns-in_err-abstract_syntax : goal.returns-in_err-abstract_syntax
returns-in_err-abstract_syntax c =
    rw c.from_residual-in_err-abstract_syntax.ensures
    (λ head s. c.in_err-abstract_syntax.ensures head.abstract_syntax s.transfer_syntaxes (syntaxes_at _ _ _ _ c.in_ok-id.ensures _ _ _ s.is))
