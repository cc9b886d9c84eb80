use Rattle.std.proofs.Common.{subst}
use Rattle.ups_session.specs.Fold.{presentation_data, Happens}
use Rattle.ups_session.specs.Party.{reaction_with}
use Rattle.ups_session.specs.Settled.{IsSettled}
use Rattle.ups_session.proofs.Going.{goes_short}
use Rattle.ups_session.proofs.Settling.{performed_settled}
use Rattle.ups_session.proofs.driver.process_pdv.Goals as goal

pub returns-clause-performed : goal.returns-clause-performed
returns-clause-performed g c =
    rw (c.in-Err.ensures.memory) (goes_short (Happens (g.P.Party.side (g.P.Party.setup c.args.party.now))) _ _ _ _)

pub returns-in-Ok-clause-performed : goal.returns-in-Ok-clause-performed
returns-in-Ok-clause-performed g c =
    let after = g.P.Party.view c.apply_effect.new.party in
    let reaction = reaction_with g.P.Party.call_view (g.P.Party.view c.react_to_pdv.new.self) c.in-Ok.effect in
    performed_settled (g.P.Party.side (g.P.Party.setup c.args.party.now)) (g.P.Party.view c.args.party.now) after (presentation_data c.args.pdv) reaction _ _ c.apply_effect.result
    c.in-Ok.ensures.reacts
    (subst (λ (s : g.P.Party.Setup). IsSettled (g.P.Party.side s) reaction after (g.E.Environment.world c.args.environment.now) (g.E.Environment.world c.apply_effect.new.environment) c.apply_effect.result)
    c.in-Ok.ensures.setup c.apply_effect.ensures.settled)
