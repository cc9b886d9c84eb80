use Rattle.std.proofs.Common.{length}
use Rattle.ups_session.proofs.Fragments.{SaidUpTo}
use Rattle.ups_session.proofs.sending.send_run.Given as goal

abbrev pub invariant-loop-rest : goal.invariant-loop-rest
invariant-loop-rest g l = SaidUpTo g.row.A.Denot l.size l.context l.command l.bytes l.rest l.initial.writer l.writer (g.G.Gate.told l.initial.gate) (g.G.Gate.told l.gate)

abbrev pub decreases-loop-rest : goal.decreases-loop-rest
decreases-loop-rest g l = length l.rest
