use Rattle.std.proofs.Common.{take}
use Rattle.ups_session.specs.Session.{okay}
use Rattle.ups_session.specs.Visits.{SendsPdus}
use Rattle.ups_session.proofs.pdu_io.send_pdus.Given as goal

abbrev pub invariant-loop-pdu : goal.invariant-loop-pdu
invariant-loop-pdu g l = SendsPdus (take l.pdu-index l.said) l.initial.writer l.writer (g.G.Gate.told l.initial.gate) (g.G.Gate.told l.gate) okay
