use Rattle.ups_pdu.specs.Association.{SpellsAssociateRq, SpellsAssociateAc}
use Rattle.ups_pdu.specs.Spelling.{IsBody, SpellsData}
use Rattle.ups_pdu.specs.declared.pdu.Pdu.TheVariants.{AssociateRq, AssociateAc, Data}
use Rattle.std.proofs.lemmas.Result.{err_from_is_err_and}
use Rattle.ups_pdu.proofs.Failing.{Gives-from_part, rq_in, ac_in, data_in}
use Rattle.ups_pdu.proofs.reading.body_of.Goals as goal

pub returns-in_err-request_of-in-AssociateRq : goal.returns-in_err-request_of-in-AssociateRq
returns-in_err-request_of-in-AssociateRq g c =
    let p = err_from_is_err_and c.from_residual.result c.from_residual.ensures.1 in
    rw (p.1, p.2)
    (Gives-from_part (SpellsAssociateRq {A = g.row.A.Denot} c.args.body.now) (IsBody {A = g.row.A.Denot} c.args.kind c.args.body.now) c.in_err-request_of-in-AssociateRq.field-0.0 (rq_in _ _ c.in-AssociateRq.is)
    (λ x s. (AssociateRq x, (c.in-AssociateRq.is, s))) c.in_err-request_of-in-AssociateRq.ensures)

pub returns-in_err-answer_of-in-AssociateAc : goal.returns-in_err-answer_of-in-AssociateAc
returns-in_err-answer_of-in-AssociateAc g c =
    let p = err_from_is_err_and c.from_residual-in_err-answer_of-in-AssociateAc.result c.from_residual-in_err-answer_of-in-AssociateAc.ensures.1 in
    rw (p.1, p.2)
    (Gives-from_part (SpellsAssociateAc {A = g.row.A.Denot} c.args.body.now) (IsBody {A = g.row.A.Denot} c.args.kind c.args.body.now) c.in_err-answer_of-in-AssociateAc.field-0.0 (ac_in _ _ c.in-AssociateAc.is)
    (λ x s. (AssociateAc x, (c.in-AssociateAc.is, s))) c.in_err-answer_of-in-AssociateAc.ensures)

pub returns-in_err-data_of-in-Data : goal.returns-in_err-data_of-in-Data
returns-in_err-data_of-in-Data g c =
    let p = err_from_is_err_and c.from_residual-in_err-data_of-in-Data.result c.from_residual-in_err-data_of-in-Data.ensures.1 in
    rw (p.1, p.2)
    (Gives-from_part (SpellsData {A = g.row.A.Denot} c.args.body.now) (IsBody {A = g.row.A.Denot} c.args.kind c.args.body.now) c.in_err-data_of-in-Data.field-0.0 (data_in _ _ c.in-Data.is)
    (λ x s. (Data x, (c.in-Data.is, s))) c.in_err-data_of-in-Data.ensures)
