use Rattle.std.proofs.Common.{[], ◌∷◌, sym, subst}
use Rattle.ups_pdu.specs.declared.associate.AssociateRq.{AssociateRq}
use Rattle.ups_pdu.specs.declared.pdu.Pdu.TheVariants as pdus
use Rattle.ups_pdu.specs.Fits.{Fits}
use Rattle.ups_session.specs.Fold.{Happens}
use Rattle.ups_session.specs.Requestor.{requestor}
use Rattle.ups_session.specs.World.{SendsAlone}
use Rattle.ups_session.proofs.Begun.{begins}
use Rattle.ups_session.proofs.Going.{goes_short}
use Rattle.ups_session.proofs.Requested.{request_fits}
use Rattle.ups_session.proofs.requestor.propose.Goals as goal

pub returns-in_default-clause-performed : goal.returns-in_default-clause-performed
returns-in_default-clause-performed g c = goes_short (Happens (requestor c.args.config.now c.args.ae)) _ _ _ _

pub send_pdu-requires : goal.send_pdu-requires
send_pdu-requires g c = record {
  fits = subst (λ (rq : AssociateRq g.row.A.Denot). Fits (pdus.AssociateRq rq)) (sym c.in-Ok.ensures.request) (request_fits g.row.A.Denot c.args.config.now.ae c.args.ae c.in-Ok.ensures.short.0 c.in-Ok.ensures.short.1);
}

pub returns-clause-performed : goal.returns-clause-performed
returns-clause-performed g c =
    let sent = subst (λ (rq : AssociateRq g.row.A.Denot). SendsAlone (pdus.AssociateRq rq ∷ []) (g.E.Environment.world c.args.environment.now) (g.E.Environment.world c.send_pdu.new.self) c.send_pdu.result) c.in-Ok.ensures.request c.send_pdu.ensures.sent in
    begins c.args.config.now c.args.ae _ _ c.send_pdu.result sent
