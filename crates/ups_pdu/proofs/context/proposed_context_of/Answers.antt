use Rattle.ups_pdu.proofs.ContextWays.{head_of, context_again}
use Rattle.ups_pdu.proofs.context.proposed_context_of.Goals as goal

pub returns-in_default : goal.returns-in_default
returns-in_default g c = λ context s. let head = head_of _ context s in c.in_default.ensures head.0 head.1

pub returns : goal.returns
returns g c = rw c.from_vec.ensures (context_again _ _ c.in-Some.ensures _ _ _ c.in-Some-split_context.ensures _ c.in_ok-uids.ensures)
