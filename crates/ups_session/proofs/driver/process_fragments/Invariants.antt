use Rattle.std.proofs.Common.{◌≡◌, map}
use Rattle.ups_session.specs.Fold.{presentation_data, Happens}
use Rattle.ups_session.specs.Session.{okay}
use Rattle.ups_session.specs.World.{Performed}
use Rattle.ups_session.proofs.driver.process_fragments.Given as goal

abbrev pub invariant-loop-pdv : goal.invariant-loop-pdv
invariant-loop-pdv g l = g.P.Party.is_ready l.party × (g.P.Party.setup l.party ≡ g.P.Party.setup l.initial.party) × (g.E.Environment.names l.environment ≡ g.E.Environment.names l.initial.environment)
    × Performed (Happens (g.P.Party.side (g.P.Party.setup l.initial.party))) (map presentation_data l.yielded) (g.P.Party.view l.initial.party) (g.P.Party.view l.party) (g.E.Environment.world l.initial.environment) (g.E.Environment.world l.environment) okay
