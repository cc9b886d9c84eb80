use Rattle.std.proofs.Common.{◌≡◌, Option, sym, subst}
use Rattle.ups_dimse.specs.declared.fault.DimseFault.TheVariants.{Memory}
use Rattle.ups_session.specs.declared.effect.AwaitedRequest.{AwaitedRequest}
use Rattle.ups_session.specs.declared.effect.Effect.{Effect}
use Rattle.ups_session.specs.Effects.{parameters_view, AreSendable}
use Rattle.ups_session.proofs.Hearings.{not_understood, command_spelled}
use Rattle.ups_session.proofs.Parts.{if_ok, on_err}
use Rattle.ups_session.proofs.dispatch.on_message.Goals as goal

pub returns-in-Err-clause-effect : goal.returns-in-Err-clause-effect
returns-in-Err-clause-effect g c = not_understood c.on_unreadable_command.result c.args.config.now.offset (parameters_view c.args.parameters.now) c.args.message.now c.as_slice.result.now c.in-Err.fault c.as_slice.ensures c.in-Err.ensures.only c.on_unreadable_command.ensures.none

pub returns-in-Err-clause-readable : goal.returns-in-Err-clause-readable
returns-in-Err-clause-readable g c = on_err c.on_unreadable_command.result (c.in-Err.fault ≡ Memory) _ (command_spelled c.args.message.now c.as_slice.result.now c.in-Err.fault c.as_slice.ensures c.in-Err.ensures.fault) c.on_unreadable_command.ensures.lost

pub returns-in-Err-clause-writable : goal.returns-in-Err-clause-writable
returns-in-Err-clause-writable g c = if_ok c.on_unreadable_command.result _ _ (λ found none. subst (λ (o : Option (Effect g.row.A.Denot (AwaitedRequest g.row.A.Denot))). AreSendable o) (sym none.0) tt) c.on_unreadable_command.ensures.none
