use Rattle.std.proofs.lemmas.Result.{err_from_is_err_and}
use Rattle.ups_session.proofs.Fragments.{said_both, said_neither}
use Rattle.ups_session.proofs.sending.send_message.Goals as goal

pub returns-in_err-send_run : goal.returns-in_err-send_run
returns-in_err-send_run g c =
    let p = err_from_is_err_and c.from_residual.result c.from_residual.ensures.1 in
    rw (p.1, p.2) (said_neither g.row.A.Denot _ c.room-size.result c.args.max c.args.context c.args.command.now c.args.body.now _ _ _ _ c.in_err-send_run.field-0.0 c.room-size.ensures.room c.in_err-send_run.ensures)

pub returns : goal.returns
returns g c =
    said_both g.row.A.Denot _ c.room-size.result c.args.max c.args.context c.args.command.now c.args.body.now _ _ _ _ _ _ c.send_run-2.result c.room-size.ensures.room c.in_ok-send_run.ensures c.send_run-2.ensures
