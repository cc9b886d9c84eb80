use Rattle.std.proofs.Common.{rules}
use Rattle.std.proofs.lemmas.Result.{err_from_is_err_and}
use Rattle.ups_pdu.specs.declared.pdu.Pdu.TheVariants.{Data}
use Rattle.ups_pdu.specs.Lengths.{LengthsFill}
use Rattle.ups_pdu.specs.Spelling.{IsBody, SpellsData}
use Rattle.ups_pdu.proofs.Failing.{Gives-from_part, data_in, fault_from_body}
use Rattle.ups_pdu.proofs.reading.read_data.Goals as goal

pub returns-in_err-pdvs : goal.returns-in_err-pdvs
returns-in_err-pdvs g c =
    let body = c.in_ok-kind.body.now in
    let p = err_from_is_err_and c.from_residual-in_err-pdvs.result c.from_residual-in_err-pdvs.ensures.1 in
    let filled : LengthsFill c.in_ok-kind.kind body = search rules in
    rw (p.1, p.2) (fault_from_body g.row.A.Denot _ _ _ _ c.in_ok-kind.ensures filled c.in_err-pdvs.field-0.0
    (Gives-from_part (SpellsData {A = g.row.A.Denot} body) (IsBody {A = g.row.A.Denot} c.in_ok-kind.kind body) c.in_err-pdvs.field-0.0 (data_in _ _ c.in-Data.is) (λ x s. (Data x, (c.in-Data.is, s))) c.in_err-pdvs.ensures))
