use Rattle.std.proofs.Common.{◌≡◌, ◌∙◌, true, [], length, refl, sym, ap, subst}
use Rattle.ups_service.specs.State.{State}
use Rattle.ups_turn.specs.Plays.{at_turn, served, MayGive}
use Rattle.ups_turn.proofs.Turns.{may_give_back, rests_behind, legal_found, observed}
use Rattle.ups_turn.proofs.turn.maintain_in_turn.Goals as goal

pub give-requires-clause-may : goal.give-requires-clause-may
give-requires-clause-may g c = subst (λ (x : State g.row.A.Denot). MayGive c.take-manager.new.place.me x 0) (sym c.maintain-is_more.ensures) (may_give_back _ c.args.number _ _ c.args.place.now.me c.take-manager.new.place.me c.take-manager.result c.requires.rests c.take-manager.ensures.took)

pub returns-clause-rests : goal.returns-clause-rests
returns-clause-rests g c =
    let again = rests_behind _ c.args.number _ _ c.args.place.now.me c.take-manager.new.place.me c.take-manager.result c.requires.rests c.take-manager.ensures.took c.give.new.place.me (subst (λ (x : State g.row.A.Denot). c.give.new.place.me ≡ (served (at_turn c.take-manager.new.place.me.0 true x.history), [])) c.maintain-is_more.ensures c.give.ensures.gave) in
    rw again refl

pub returns-clause-entries : goal.returns-clause-entries
returns-clause-entries g c =
    let again = rests_behind _ c.args.number _ _ c.args.place.now.me c.take-manager.new.place.me c.take-manager.result c.requires.rests c.take-manager.ensures.took c.give.new.place.me (subst (λ (x : State g.row.A.Denot). c.give.new.place.me ≡ (served (at_turn c.take-manager.new.place.me.0 true x.history), [])) c.maintain-is_more.ensures c.give.ensures.gave) in
    rw again (c.entries-entries.ensures.count ∙ ap (λ (x : State g.row.A.Denot). length x.history) c.maintain-is_more.ensures)

pub returns-clause-legal : goal.returns-clause-legal
returns-clause-legal g c =
    let again = rests_behind _ c.args.number _ _ c.args.place.now.me c.take-manager.new.place.me c.take-manager.result c.requires.rests c.take-manager.ensures.took c.give.new.place.me (subst (λ (x : State g.row.A.Denot). c.give.new.place.me ≡ (served (at_turn c.take-manager.new.place.me.0 true x.history), [])) c.maintain-is_more.ensures c.give.ensures.gave) in
    rw again (legal_found _ c.args.number _ _ c.args.place.now.me c.take-manager.new.place.me c.take-manager.result c.requires.rests c.take-manager.ensures.took)

pub returns-clause-standing : goal.returns-clause-standing
returns-clause-standing g c =
    let same : c.give.new.place.table_id ≡ c.args.place.now.table_id = c.give.ensures.same.0 ∙ c.take-manager.ensures.same.0 in
    let again = rests_behind _ c.args.number _ _ c.args.place.now.me c.take-manager.new.place.me c.take-manager.result c.requires.rests c.take-manager.ensures.took c.give.new.place.me (subst (λ (x : State g.row.A.Denot). c.give.new.place.me ≡ (served (at_turn c.take-manager.new.place.me.0 true x.history), [])) c.maintain-is_more.ensures c.give.ensures.gave) in
    rw again (observed _ c.args.number _ _ c.args.place.now.me c.take-manager.new.place.me c.take-manager.result c.requires.rests c.take-manager.ensures.took _ _ same)
