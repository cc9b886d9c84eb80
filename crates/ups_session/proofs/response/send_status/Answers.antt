use Rattle.std.proofs.Common.{◌∙◌, List, subst}
use Rattle.std.proofs.lemmas.Result.{err_from_is_err_and}
use Rattle.ups_pdu.specs.declared.pdu.Pdu.{Pdu}
use Rattle.ups_session.specs.Visits.{SendsPdus}
use Rattle.ups_session.proofs.Parts.{bare-response}
use Rattle.ups_session.proofs.Spoken.{says_lost}
use Rattle.ups_session.proofs.response.send_status.Goals as goal

pub returns-in_err-command : goal.returns-in_err-command
returns-in_err-command g c =
    let p = err_from_is_err_and c.from_residual.result c.from_residual.ensures.1 in
    rw (p.1, p.2) (says_lost _ _ _)

pub returns : goal.returns
returns g c =
    let one = bare-response c.args.max c.args.context.now c.args.request.now c.args.status c.deref.result.now (c.deref.ensures.value ∙ c.in_ok-command.ensures) in
    subst (λ (l : List (Pdu g.row.A.Denot)). SendsPdus l c.args.writer.now c.send_command.new.writer (g.G.Gate.told c.args.gate.now) (g.G.Gate.told c.send_command.new.gate) c.send_command.result) one c.send_command.ensures
