use Rattle.ups_session.proofs.Spoken.{says_lost, says_one}
use Rattle.std.proofs.Common.{[], ◌∷◌, ◌∙◌}
use Rattle.std.proofs.lemmas.Result.{err_from_is_err_and}
use Rattle.ups_session.proofs.pdu_io.send_pdu.Goals as goal

pub returns-in_err-bytes : goal.returns-in_err-bytes
returns-in_err-bytes g c =
    let p = err_from_is_err_and c.from_residual.result c.from_residual.ensures.1 in
    rw (p.1, p.2) (says_lost (c.args.pdu.now ∷ []) _ _)

pub returns : goal.returns
returns g c =
    let (sent, writes, all) = c.send_bytes.ensures.bytes in
    says_one c.args.pdu.now _ _ _ _ c.deref.result.now sent c.send_bytes.result (c.deref.ensures.value ∙ c.in_ok-bytes.ensures.written) writes all c.send_bytes.ensures.told
