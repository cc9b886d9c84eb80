use Rattle.std.proofs.Common.{rules, List, subst}
use Rattle.std.proofs.lemmas.List.{take_all}
use Rattle.std.proofs.lemmas.Result.{err_from_is_err_and}
use Rattle.ups_pdu.specs.declared.pdu.Pdu.{Pdu}
use Rattle.ups_session.specs.Session.{okay}
use Rattle.ups_session.specs.Visits.{SendsPdus}
use Rattle.ups_session.proofs.Spoken.{says_nothing, pdus_step, pdus_stop}
use Rattle.ups_session.proofs.pdu_io.send_pdus.Goals as goal

pub loop-pdu-init : goal.loop-pdu-init
loop-pdu-init g c = says_nothing _ _

pub returns-in_err-send_pdu : goal.returns-in_err-send_pdu
returns-in_err-send_pdu g c =
    let p = err_from_is_err_and c.from_residual.result c.from_residual.ensures.1 in
    rw (p.1, p.2) (pdus_stop c.args.said.now c.loop-pdu.pdu-index c.pdu-item.result _ _ _ _ _ _ c.in_err-send_pdu.field-0.0 c.loop-pdu-test.true c.pdu-item.is c.loop-pdu.invariant c.in_err-send_pdu.ensures)

pub loop-pdu-preserved : goal.loop-pdu-preserved
loop-pdu-preserved g c = pdus_step c.args.said.now c.loop-pdu.pdu-index c.pdu-item.result _ _ _ _ _ _ c.loop-pdu-test.true c.pdu-item.is c.loop-pdu.invariant c.in_ok-send_pdu.ensures

pub returns : goal.returns
returns g c =
    subst (λ (l : List (Pdu g.row.A.Denot)). SendsPdus l c.args.writer.now c.loop-pdu.writer (g.G.Gate.told c.args.gate.now) (g.G.Gate.told c.loop-pdu.gate) okay)
    (take_all c.loop-pdu.pdu-index c.args.said.now (search rules)) c.loop-pdu.invariant
