use Rattle.ups_session.proofs.Fragments.{said_alone}
use Rattle.ups_session.proofs.sending.send_command.Goals as goal

pub returns : goal.returns
returns g c =
    said_alone g.row.A.Denot _ c.room.result c.args.max c.args.context c.args.command.now _ _ _ _ c.send_run.result c.room.ensures.room c.send_run.ensures
