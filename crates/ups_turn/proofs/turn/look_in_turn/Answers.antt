use Rattle.std.proofs.Common.{◌≡◌, ◌∙◌, true, [], length, refl, sym, ap, subst}
use Rattle.std.specs.Prelude.{IfOk, OnErr}
use Rattle.ups_life.specs.Settings.{Settings}
use Rattle.ups_service.specs.Law.{SmallReply, is_granted}
use Rattle.ups_service.specs.Looking.{rows_for, reply_from}
use Rattle.ups_service.specs.State.{State}
use Rattle.ups_turn.specs.Plays.{at_turn, served, MayGive}
use Rattle.ups_turn.proofs.Turns.{may_give_back, rests_behind, legal_found, settings_found, observed}
use Rattle.ups_turn.proofs.turn.look_in_turn.Goals as goal

pub give-requires-clause-may : goal.give-requires-clause-may
give-requires-clause-may g c = subst (λ (x : State g.row.A.Denot). MayGive c.take-manager.new.place.me x 0) (sym c.look-rows.ensures.same) (may_give_back _ c.args.number _ _ c.args.place.now.me c.take-manager.new.place.me c.take-manager.result c.requires.rests c.take-manager.ensures.took)

pub returns-clause-rests : goal.returns-clause-rests
returns-clause-rests g c =
    let again = rests_behind _ c.args.number _ _ c.args.place.now.me c.take-manager.new.place.me c.take-manager.result c.requires.rests c.take-manager.ensures.took c.give.new.place.me (subst (λ (x : State g.row.A.Denot). c.give.new.place.me ≡ (served (at_turn c.take-manager.new.place.me.0 true x.history), [])) c.look-rows.ensures.same c.give.ensures.gave) in
    rw again refl

pub returns-clause-entries : goal.returns-clause-entries
returns-clause-entries g c =
    let again = rests_behind _ c.args.number _ _ c.args.place.now.me c.take-manager.new.place.me c.take-manager.result c.requires.rests c.take-manager.ensures.took c.give.new.place.me (subst (λ (x : State g.row.A.Denot). c.give.new.place.me ≡ (served (at_turn c.take-manager.new.place.me.0 true x.history), [])) c.look-rows.ensures.same c.give.ensures.gave) in
    rw again (c.entries-entries.ensures.count ∙ ap (λ (x : State g.row.A.Denot). length x.history) c.look-rows.ensures.same)

pub returns-clause-legal : goal.returns-clause-legal
returns-clause-legal g c =
    let again = rests_behind _ c.args.number _ _ c.args.place.now.me c.take-manager.new.place.me c.take-manager.result c.requires.rests c.take-manager.ensures.took c.give.new.place.me (subst (λ (x : State g.row.A.Denot). c.give.new.place.me ≡ (served (at_turn c.take-manager.new.place.me.0 true x.history), [])) c.look-rows.ensures.same c.give.ensures.gave) in
    rw again (legal_found _ c.args.number _ _ c.args.place.now.me c.take-manager.new.place.me c.take-manager.result c.requires.rests c.take-manager.ensures.took)

pub returns-clause-standing : goal.returns-clause-standing
returns-clause-standing g c =
    let same : c.give.new.place.table_id ≡ c.args.place.now.table_id = c.give.ensures.same.0 ∙ c.take-manager.ensures.same.0 in
    let again = rests_behind _ c.args.number _ _ c.args.place.now.me c.take-manager.new.place.me c.take-manager.result c.requires.rests c.take-manager.ensures.took c.give.new.place.me (subst (λ (x : State g.row.A.Denot). c.give.new.place.me ≡ (served (at_turn c.take-manager.new.place.me.0 true x.history), [])) c.look-rows.ensures.same c.give.ensures.gave) in
    rw again (observed _ c.args.number _ _ c.args.place.now.me c.take-manager.new.place.me c.take-manager.result c.requires.rests c.take-manager.ensures.took _ _ same)

pub returns-clause-rows : goal.returns-clause-rows
returns-clause-rows g c =
    let again = rests_behind _ c.args.number _ _ c.args.place.now.me c.take-manager.new.place.me c.take-manager.result c.requires.rests c.take-manager.ensures.took c.give.new.place.me (subst (λ (x : State g.row.A.Denot). c.give.new.place.me ≡ (served (at_turn c.take-manager.new.place.me.0 true x.history), [])) c.look-rows.ensures.same c.give.ensures.gave) in
    rw again (subst (λ (s : Settings). IfOk c.look-rows.result (λ rows. rows ≡ rows_for s c.take-manager.result.history c.args.ask.now)) (settings_found _ c.args.number _ _ c.args.place.now.me c.take-manager.new.place.me c.take-manager.result c.requires.rests c.take-manager.ensures.took) c.look-rows.ensures.rows)

pub returns-clause-lacks : goal.returns-clause-lacks
returns-clause-lacks g c =
    let again = rests_behind _ c.args.number _ _ c.args.place.now.me c.take-manager.new.place.me c.take-manager.result c.requires.rests c.take-manager.ensures.took c.give.new.place.me (subst (λ (x : State g.row.A.Denot). c.give.new.place.me ≡ (served (at_turn c.take-manager.new.place.me.0 true x.history), [])) c.look-rows.ensures.same c.give.ensures.gave) in
    rw again (subst (λ (s : Settings). OnErr c.look-rows.result (is_granted (reply_from (rows_for s c.take-manager.result.history c.args.ask.now) c.args.ask.now) ≡ true)) (settings_found _ c.args.number _ _ c.args.place.now.me c.take-manager.new.place.me c.take-manager.result c.requires.rests c.take-manager.ensures.took) c.look-rows.ensures.lacks)

pub returns-clause-small : goal.returns-clause-small
returns-clause-small g c =
    let again = rests_behind _ c.args.number _ _ c.args.place.now.me c.take-manager.new.place.me c.take-manager.result c.requires.rests c.take-manager.ensures.took c.give.new.place.me (subst (λ (x : State g.row.A.Denot). c.give.new.place.me ≡ (served (at_turn c.take-manager.new.place.me.0 true x.history), [])) c.look-rows.ensures.same c.give.ensures.gave) in
    rw again (subst (λ (s : Settings). SmallReply (reply_from (rows_for s c.take-manager.result.history c.args.ask.now) c.args.ask.now)) (settings_found _ c.args.number _ _ c.args.place.now.me c.take-manager.new.place.me c.take-manager.result c.requires.rests c.take-manager.ensures.took) c.look-rows.ensures.small)
