use Rattle.std.proofs.Common.{subst}
use Rattle.ups_session.specs.Fold.{Happens}
use Rattle.ups_session.specs.Party.{indication_of, reaction_with}
use Rattle.ups_session.specs.Settled.{IsSettled}
use Rattle.ups_session.proofs.Going.{goes_short}
use Rattle.ups_session.proofs.Settling.{performed_settled}
use Rattle.ups_session.proofs.driver.perform.Goals as goal

pub returns-in-Err-clause-performed : goal.returns-in-Err-clause-performed
returns-in-Err-clause-performed g c =
    rw (c.in-Err.ensures.memory) (goes_short (Happens (g.P.Party.side (g.P.Party.setup c.args.party.now))) _ _ _ _)

pub returns-in-Ok-clause-performed : goal.returns-in-Ok-clause-performed
returns-in-Ok-clause-performed g c =
    let after = g.P.Party.view c.apply_effect.new.party in
    let reaction = reaction_with g.P.Party.call_view (g.P.Party.view c.react.new.self) c.in-Ok.effect in
    performed_settled (g.P.Party.side (g.P.Party.setup c.args.party.now)) (g.P.Party.view c.args.party.now) after (indication_of c.args.indication.now) reaction _ _ c.apply_effect.result
    c.in-Ok.ensures.reacts
    (subst (λ (s : g.P.Party.Setup). IsSettled (g.P.Party.side s) reaction after (g.E.Environment.world c.args.environment.now) (g.E.Environment.world c.apply_effect.new.environment) c.apply_effect.result)
    c.in-Ok.ensures.setup c.apply_effect.ensures.settled)
