use Rattle.std.proofs.Common.{w16}
use Rattle.std.proofs.lemmas.Int.{to_z-of_z}
use Rattle.ups_session.proofs.Asks.{asks_lacking, answers_refused}
use Rattle.ups_session.proofs.dispatch.dispatched.Goals as goal

pub returns-in-ResourceLimitation : goal.returns-in-ResourceLimitation
returns-in-ResourceLimitation g c = record {
  dispatched = tt;
  memory = asks_lacking c.args.offset _ c.args.operation.now c.args.set c.in-Err.status (to_z-of_z w16 c.args.offset c.ranges.offset) c.in_default.not-Echo c.in-ResourceLimitation.is c.in-Err.ensures.asks;
}

pub returns-in_default-status : goal.returns-in_default-status
returns-in_default-status g c = record {
  dispatched = answers_refused c.args.offset _ c.args.operation.now c.args.set c.in-Err.status (to_z-of_z w16 c.args.offset c.ranges.offset) c.in_default.not-Echo c.in_default-status.not-ResourceLimitation c.in-Err.ensures.asks;
  memory = tt;
}
