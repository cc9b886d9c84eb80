use Rattle.std.proofs.Common.{take}
use Rattle.std.specs.List.{flat_map}
use Rattle.ups_cycle.specs.declared.status.Status.TheVariants.{Pending}
use Rattle.ups_session.specs.Responses.{set_response}
use Rattle.ups_session.specs.Session.{okay}
use Rattle.ups_session.specs.Visits.{SendsPdus}
use Rattle.ups_session.proofs.response.send_matches.Given as goal

abbrev pub invariant-loop-set : goal.invariant-loop-set
invariant-loop-set g l = SendsPdus {A = g.row.A.Denot} (flat_map (set_response l.max l.context l.request Pending) (take l.set-index l.sets)) l.initial.writer l.writer (g.G.Gate.told l.initial.gate) (g.G.Gate.told l.gate) okay
