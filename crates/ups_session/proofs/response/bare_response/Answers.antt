use Rattle.std.proofs.Common.{◌∙◌}
use Rattle.ups_session.proofs.Parts.{if_ok, bare-response}
use Rattle.ups_session.proofs.response.bare_response.Goals as goal

pub returns-clause-response : goal.returns-clause-response
returns-clause-response g c =
    if_ok c.pieces.result _ _ (λ v w. w ∙ bare-response c.args.max c.args.context.now c.args.request.now c.args.status c.deref.result.now (c.deref.ensures.value ∙ c.in_ok-command.ensures)) c.pieces.ensures.pieces
