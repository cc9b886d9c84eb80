use Rattle.std.proofs.lemmas.Result.{err_from_is_err_and}
use Rattle.ups_session.proofs.Fragments.{said_none, said_more, said_part, said_last}
use Rattle.ups_session.proofs.sending.send_run.Goals as goal

pub loop-rest-init : goal.loop-rest-init
loop-rest-init g c = said_none g.row.A.Denot _ _ _ _ _ _

pub returns-in_err-send_fragment : goal.returns-in_err-send_fragment
returns-in_err-send_fragment g c =
    let p = err_from_is_err_and c.from_residual.result c.from_residual.ensures.1 in
    rw (p.1, p.2) (said_part g.row.A.Denot _ c.args.size c.args.context c.args.command c.args.bytes.now c.loop-rest.rest.now c.split_at.result.0.now _ _ _ _ _ _ c.in_err-send_fragment.field-0.0 c.requires.some c.loop-rest-test.true c.split_at.ensures.front c.loop-rest.invariant c.in_err-send_fragment.ensures)

pub loop-rest-preserved : goal.loop-rest-preserved
loop-rest-preserved g c =
    said_more g.row.A.Denot c.args.size c.args.context c.args.command c.args.bytes.now c.loop-rest.rest.now c.split_at.result.0.now c.split_at.result.1.now _ _ _ _ _ _ c.requires.some c.loop-rest-test.true c.split_at.ensures.front c.split_at.ensures.back c.loop-rest.invariant c.in_ok-send_fragment.ensures

pub returns : goal.returns
returns g c =
    said_last g.row.A.Denot _ c.args.size c.args.context c.args.command c.args.bytes.now c.loop-rest.rest.now _ _ _ _ _ _ c.send_fragment-2.result c.loop-rest-test.false c.loop-rest.invariant c.send_fragment-2.ensures
