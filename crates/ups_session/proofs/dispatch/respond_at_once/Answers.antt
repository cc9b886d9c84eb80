use Rattle.std.proofs.Common.{List, None, Some, ap}
use Rattle.ups_pdu.specs.declared.pdu.Pdu.{Pdu}
use Rattle.ups_session.proofs.Parts.{bare-response}
use Rattle.ups_session.proofs.dispatch.respond_at_once.Goals as goal

pub returns-clause-effect : goal.returns-clause-effect
returns-clause-effect g c =
    ap (λ (l : List (Pdu g.row.A.Denot)). Some (l, None)) (bare-response c.args.parameters.now.max c.args.context.now c.args.command.now c.args.status _ c.in_ok-response_bytes.ensures)
