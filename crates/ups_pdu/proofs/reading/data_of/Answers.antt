use Rattle.std.proofs.Common.{rules, ◌≡◌, ◌<◌, [], length}
use Rattle.std.proofs.lemmas.List.{nil_from_length}
use Rattle.std.proofs.lemmas.Result.{err_from_is_err_and}
use Rattle.ups_pdu.proofs.FragmentWays.{none_of_nil, not_none, pdvs_from_fragments}
use Rattle.ups_pdu.proofs.reading.data_of.Goals as goal

pub returns-then-is_empty : goal.returns-then-is_empty
returns-then-is_empty g c =
    let none : c.args.body.now ≡ [] = nil_from_length _ (search rules) in
    none_of_nil c.args.body.now none

pub returns-in_err-pdvs : goal.returns-in_err-pdvs
returns-in_err-pdvs g c =
    let p = err_from_is_err_and c.from_residual.result c.from_residual.ensures.1 in
    let some : 0 < length c.args.body.now = search rules in
    let ps = pdvs_from_fragments g.row.A.Denot c.args.body.now c.requires.0 c.requires.1 in
    rw (p.1, p.2) (ps.0, record { some = not_none _ _ some ps.1; each = ps.1 })

pub returns : goal.returns
returns g c =
    let some : 0 < length c.args.body.now = search rules in
    let each = c.in_ok-pdvs.ensures c.requires in
    record { some = not_none _ _ some each; each = each }
