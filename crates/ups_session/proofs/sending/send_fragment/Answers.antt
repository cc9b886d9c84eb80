use Rattle.std.proofs.Common.{[], ◌∷◌, ◌++◌, ◌∙◌, ℕ, List, ap}
use Rattle.std.proofs.lemmas.Result.{err_from_is_err_and}
use Rattle.ups_pdu.specs.Written.{written_pdu}
use Rattle.ups_assoc.specs.Cutting.{fragment}
use Rattle.ups_session.proofs.Spoken.{says_lost, says_one}
use Rattle.ups_session.proofs.sending.send_fragment.Goals as goal

pub returns-in_err-put_fragment : goal.returns-in_err-put_fragment
returns-in_err-put_fragment g c =
    let p = err_from_is_err_and c.from_residual.result c.from_residual.ensures.1 in
    rw (p.1, p.2) (says_lost (fragment {A = g.row.A.Denot} c.args.context c.args.command c.args.last c.args.bytes.now ∷ []) _ _)

pub returns : goal.returns
returns g c =
    let pdu = fragment {A = g.row.A.Denot} c.args.context c.args.command c.args.last c.args.bytes.now in
    let (sent, writes, all) = c.send_bytes.ensures.bytes in
    says_one pdu _ _ _ _ c.as_slice.result.now sent c.send_bytes.result
    (c.as_slice.ensures.value ∙ c.in_ok-put_fragment.ensures ∙ ap (λ (l : List ℕ). l ++ written_pdu pdu) c.clear.ensures.items) writes all c.send_bytes.ensures.told
