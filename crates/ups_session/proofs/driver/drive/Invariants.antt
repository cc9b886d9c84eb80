use Rattle.std.proofs.Common.{◌≡◌, ◌+◌, [], ℕ, List, length}
use Rattle.std.specs.Io.KnownBytes.{Consumes}
use Rattle.ups_session.specs.Fold.{Arrival, IsOpen}
use Rattle.ups_session.specs.Session.{Progress, NoEnd}
use Rattle.ups_session.proofs.driver.drive.Given as goal

abbrev pub invariant-loop-left : goal.invariant-loop-left
invariant-loop-left g l =
    g.P.Party.is_ready l.party × (g.P.Party.setup l.party ≡ g.P.Party.setup l.fn.party) × (g.E.Environment.names l.environment ≡ g.E.Environment.names l.fn.environment)
    × IsOpen ((g.P.Party.side (g.P.Party.setup l.fn.party)).state (g.P.Party.view l.party))
    × (input : List ℕ) × (arrivals : List (Arrival g.row.A.Denot)) × Consumes l.fn.reader.left l.reader.left input
    × (length arrivals + l.left ≡ l.turns) × NoEnd arrivals
    × Progress (g.P.Party.side (g.P.Party.setup l.fn.party)) g.P.Party.start (g.P.Party.view l.party) input [] arrivals (g.E.Environment.world l.fn.environment) (g.E.Environment.world l.environment)

abbrev pub decreases-loop-left : goal.decreases-loop-left
decreases-loop-left g l = l.left
