use Rattle.std.proofs.Common.{refl}
use Rattle.ups_session.specs.declared.gate.GateCall.TheVariants.{Before}
use Rattle.ups_session.proofs.Telling.{untold_call}
use Rattle.ups_pipe.specs.Piping.{epoch}
use Rattle.ups_pipe.proofs.gate.EpochGate.before_write.Goals as goal

pub returns : goal.returns
returns c = untold_call epoch Before refl (tt, tt)
