use Rattle.std.proofs.Common.{ℕ, List, None, Result, Ok, Err, subst, ap}
use Rattle.std.specs.Prelude.{OnOk}
use Rattle.ups_pdu.specs.declared.pdu.Pdu.{Pdu}
use Rattle.ups_assoc.specs.Cutting.{pieces}
use Rattle.ups_session.specs.Party.{said_by, awaited_by}
use Rattle.ups_session.specs.World.{SendsAlone}
use Rattle.ups_session.proofs.Settling.{settled_effect}
use Rattle.ups_session.proofs.driver.apply_effect.Goals as goal

ready : {T E : Type 0} (r : Result T E) (P : Type 0) → P → OnOk r P
ready (Ok x) P p = p
ready (Err e) P p = tt

pub returns-in-Send-clause-settled : goal.returns-in-Send-clause-settled
returns-in-Send-clause-settled g c =
    let said = subst (λ (l : List (Pdu g.row.A.Denot)). SendsAlone l (g.E.Environment.world c.args.environment.now) (g.E.Environment.world c.send_pdus.new.self) c.send_pdus.result) c.as_slice.ensures.value c.send_pdus.ensures.sent in
    settled_effect (g.P.Party.side (g.P.Party.setup c.args.party.now)) g.P.Party.call_view (g.P.Party.view c.args.party.now) c.args.effect c.in-Send.said.items _ _ c.send_pdus.result
    (ap (awaited_by g.P.Party.call_view) c.in-Send.is) (ap said_by c.in-Send.is) said

pub returns-in-Send-clause-ready : goal.returns-in-Send-clause-ready
returns-in-Send-clause-ready g c = ready c.send_pdus.result _ c.requires.ready

pub returns-in-Respond-clause-settled : goal.returns-in-Respond-clause-settled
returns-in-Respond-clause-settled g c =
    let response = c.in-Respond.response in
    let said = subst (λ (l : List ℕ). SendsAlone (pieces {A = g.row.A.Denot} response.context l None response.max) (g.E.Environment.world c.args.environment.now) (g.E.Environment.world c.send_command.new.self) c.send_command.result) c.as_slice-in-Respond.ensures.value c.send_command.ensures.sent in
    settled_effect (g.P.Party.side (g.P.Party.setup c.args.party.now)) g.P.Party.call_view (g.P.Party.view c.args.party.now) c.args.effect (pieces response.context response.command.items None response.max) _ _ c.send_command.result
    (ap (awaited_by g.P.Party.call_view) c.in-Respond.is) (ap said_by c.in-Respond.is) said
