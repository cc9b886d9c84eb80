use Rattle.std.proofs.Common.{◌≡◌, refl, sym, ap, [], ◌∷◌, ◌++◌, ◌∙◌, List, map, subst}
use Rattle.std.proofs.lemmas.List.{append-nil}
use Rattle.std.specs.Vec.Iter.{into_iter_items}
use Rattle.std.proofs.lemmas.Result.{err_from_is_err_and}
use Rattle.ups_pdu.specs.declared.pdv.Pdv.{Pdv}
use Rattle.ups_session.specs.Fold.{presentation_data, Happens}
use Rattle.ups_session.specs.Session.{okay, failing}
use Rattle.ups_session.specs.World.{Performed}
use Rattle.ups_session.proofs.Going.{goes_nowhere}
use Rattle.ups_session.proofs.Carrying.{taken_front, nothing_left, fragments_on, fragments_cut}
use Rattle.ups_session.proofs.driver.process_fragments.Goals as goal

pub loop-pdv-init : goal.loop-pdv-init
loop-pdv-init g c = (c.requires.ready, refl, refl, goes_nowhere (Happens (g.P.Party.side (g.P.Party.setup c.args.party.now))) (g.P.Party.view c.args.party.now) _ tt)

pub returns-in_err-process_pdv-clause-performed : goal.returns-in_err-process_pdv-clause-performed
returns-in_err-process_pdv-clause-performed g c =
    let p = err_from_is_err_and c.from_residual.result c.from_residual.ensures.1 in
    let e = c.in_err-process_pdv.field-0.0 in
    let (ready, same, named, so_far) = c.loop-pdv.invariant in
    let front = c.loop-pdv.yielded in
    let rest = into_iter_items c.next.new.self in
    let parts : c.args.pdvs ≡ front ++ c.in-Some.pdv ∷ rest =
    sym c.into_vec-pdv-items.ensures ∙ (sym c.into_iter-pdv-iterator.ensures.into_iter_gives.0
    ∙ (taken_front c.into_iter-pdv-iterator.result front c.loop-pdv.pdv-iterator c.loop-pdv.yielded_by ∙ ap (λ (ps : List (Pdv g.row.A.Denot)). front ++ ps) c.in-Some.ensures.steps.0)) in
    rw (p.1, p.2)
    (fragments_cut (g.P.Party.side (g.P.Party.setup c.args.party.now)) c.args.pdvs front rest c.in-Some.pdv (g.P.Party.view c.args.party.now) (g.P.Party.view c.loop-pdv.party) (g.P.Party.view c.process_pdv.new.party) _ _ _ e parts so_far
    (subst (λ (s : g.P.Party.Setup). Performed (Happens (g.P.Party.side s)) (presentation_data c.in-Some.pdv ∷ []) (g.P.Party.view c.loop-pdv.party) (g.P.Party.view c.process_pdv.new.party) (g.E.Environment.world c.loop-pdv.environment) (g.E.Environment.world c.process_pdv.new.environment) (failing e))
    same c.in_err-process_pdv.ensures.performed))

pub returns-in_err-process_pdv-clause-setup : goal.returns-in_err-process_pdv-clause-setup
returns-in_err-process_pdv-clause-setup g c = c.in_err-process_pdv.ensures.setup ∙ c.loop-pdv.invariant.1

pub returns-in_err-process_pdv-clause-names : goal.returns-in_err-process_pdv-clause-names
returns-in_err-process_pdv-clause-names g c = c.in_err-process_pdv.ensures.names ∙ c.loop-pdv.invariant.2

pub loop-pdv-preserved : goal.loop-pdv-preserved
loop-pdv-preserved g c =
    let (ready, same, named, so_far) = c.loop-pdv.invariant in (
      c.in_ok-process_pdv.ensures.ready,
      c.in_ok-process_pdv.ensures.setup ∙ same,
      c.in_ok-process_pdv.ensures.names ∙ named,
      fragments_on (g.P.Party.side (g.P.Party.setup c.args.party.now)) c.loop-pdv.yielded c.in-Some.pdv (g.P.Party.view c.args.party.now) (g.P.Party.view c.loop-pdv.party) (g.P.Party.view c.process_pdv.new.party) _ _ _ so_far
          (subst (λ (s : g.P.Party.Setup). Performed (Happens (g.P.Party.side s)) (presentation_data c.in-Some.pdv ∷ []) (g.P.Party.view c.loop-pdv.party) (g.P.Party.view c.process_pdv.new.party) (g.E.Environment.world c.loop-pdv.environment) (g.E.Environment.world c.process_pdv.new.environment) okay)
          same c.in_ok-process_pdv.ensures.performed),
    )

pub returns-clause-performed : goal.returns-clause-performed
returns-clause-performed g c =
    let front = c.loop-pdv.yielded in
    let all : c.args.pdvs ≡ front =
    sym c.into_vec-pdv-items.ensures ∙ (sym c.into_iter-pdv-iterator.ensures.into_iter_gives.0
    ∙ (taken_front c.into_iter-pdv-iterator.result front c.loop-pdv.pdv-iterator c.loop-pdv.yielded_by ∙ (ap (λ (ps : List (Pdv g.row.A.Denot)). front ++ ps) (nothing_left c.loop-pdv.pdv-iterator c.in-None.ensures.steps.0) ∙ append-nil front))) in
    subst (λ (l : List (Pdv g.row.A.Denot)). Performed (Happens (g.P.Party.side (g.P.Party.setup c.args.party.now))) (map presentation_data l) (g.P.Party.view c.args.party.now) (g.P.Party.view c.loop-pdv.party) (g.E.Environment.world c.args.environment.now) (g.E.Environment.world c.loop-pdv.environment) okay)
    (sym all) c.loop-pdv.invariant.3
