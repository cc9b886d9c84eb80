use Rattle.std.proofs.lemmas.Result.{err_from_is_err_and}
use Rattle.ups_assoc.proofs.Steps.{with_data_err, with_data_ok}
use Rattle.ups_assoc.proofs.assembling.with_data.Goals as goal

pub returns-in_err-bytes : goal.returns-in_err-bytes
returns-in_err-bytes g c =
    let p = err_from_is_err_and c.from_residual.result c.from_residual.ensures.1 in
    let h = rw c.len-elsewhere.ensures at c.in_err-bytes.ensures.fault in
    rw (p.1, p.2) (with_data_err g.row.A.Denot c.args.context c.args.command c.args.bytes c.args.pdv c.in_err-bytes.field-0.0 h)

pub returns : goal.returns
returns g c =
    let h = rw c.len-elsewhere.ensures at c.in_ok-bytes.ensures.appended in
    with_data_ok g.row.A.Denot c.args.context c.args.command c.args.bytes c.in_ok-bytes.bytes c.args.pdv c.body_end.result h.0 h.1 c.body_end.ensures
