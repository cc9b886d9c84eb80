use Rattle.std.proofs.Common.{rules}
use Rattle.std.proofs.lemmas.Result.{err_from_is_err_and}
use Rattle.ups_pdu.specs.Lengths.{LengthsFill}
use Rattle.ups_pdu.proofs.Failing.{fault_from_body}
use Rattle.ups_pdu.proofs.reading.front_of.Goals as goal

pub returns-in_err-pdu : goal.returns-in_err-pdu
returns-in_err-pdu g c =
    let p = err_from_is_err_and c.from_residual-in_err-pdu.result c.from_residual-in_err-pdu.ensures.1 in
    let filled : LengthsFill c.in_ok-kind.kind c.in_ok-kind.body.now = search rules in
    rw (p.1, p.2) (fault_from_body g.row.A.Denot _ _ _ _ c.in_ok-kind.ensures filled c.in_err-pdu.field-0.0 c.in_err-pdu.ensures)
