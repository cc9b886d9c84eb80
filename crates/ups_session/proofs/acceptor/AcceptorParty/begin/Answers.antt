use Rattle.std.proofs.Common.{[], sym, subst}
use Rattle.ups_session.specs.Acceptor.{acceptor, opened}
use Rattle.ups_session.specs.Association.{AssociationView}
use Rattle.ups_session.specs.Fold.{Happens}
use Rattle.ups_session.specs.Session.{okay}
use Rattle.ups_session.specs.World.{Performed}
use Rattle.ups_session.proofs.Going.{goes_nowhere}
use Rattle.ups_session.proofs.acceptor.AcceptorParty.begin.Goals as goal

pub returns-clause-begins : goal.returns-clause-begins
returns-clause-begins g c =
    let side = acceptor {A = g.row.A.Denot} c.args.self.now.config.now in
    let w = g.E.Environment.world c.args._environment.now in
    subst (λ (l : AssociationView g.row.A.Denot). Performed (Happens side) [] opened l w w okay) (sym c.requires.start) (goes_nowhere (Happens side) opened w tt)
