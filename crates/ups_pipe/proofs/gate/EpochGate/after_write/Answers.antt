use Rattle.std.proofs.Common.{refl}
use Rattle.ups_session.specs.declared.gate.GateCall.TheVariants.{After}
use Rattle.ups_session.proofs.Telling.{untold_call}
use Rattle.ups_pipe.specs.Piping.{epoch}
use Rattle.ups_pipe.proofs.gate.EpochGate.after_write.Goals as goal

pub returns : goal.returns
returns c = untold_call epoch After refl (tt, tt)
