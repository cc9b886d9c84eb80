use Rattle.std.proofs.Common.{◌∙◌, ℕ, List, Some, subst}
use Rattle.std.proofs.lemmas.Result.{err_from_is_err_and}
use Rattle.ups_assoc.specs.Cutting.{pieces}
use Rattle.ups_session.specs.Visits.{SendsPdus}
use Rattle.ups_session.proofs.Spoken.{says_lost}
use Rattle.ups_session.proofs.response.send_small_set.Goals as goal

pub returns-in_err-body : goal.returns-in_err-body
returns-in_err-body g c =
    let p = err_from_is_err_and c.from_residual.result c.from_residual.ensures.1 in
    rw (p.1, p.2) (says_lost _ _ _)

pub returns : goal.returns
returns g c =
    subst (λ (b : List ℕ). SendsPdus (pieces {A = g.row.A.Denot} c.args.context.now.id c.args.command.now (Some b) c.args.max) c.args.writer.now c.send_message.new.writer (g.G.Gate.told c.args.gate.now) (g.G.Gate.told c.send_message.new.gate) c.send_message.result)
    (c.deref.ensures.value ∙ c.in_ok-body.ensures.written) c.send_message.ensures
