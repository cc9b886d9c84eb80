use Rattle.std.proofs.Common.{◌≡◌, ◌∙◌, refl, length, subst}
use Rattle.ups_life.specs.Events.{pending}
use Rattle.ups_life.specs.Settings.{Settings}
use Rattle.ups_life.specs.Steps.{past}
use Rattle.ups_turn.proofs.Turns.{may_give_back, rests_behind, legal_found, settings_found, observed}
use Rattle.ups_turn.proofs.turn.waiting_in_turn.Goals as goal

pub give-requires-clause-may : goal.give-requires-clause-may
give-requires-clause-may g c = may_give_back _ c.args.number _ _ c.args.place.now.me c.take-manager.new.place.me c.take-manager.result c.requires.rests c.take-manager.ensures.took

pub returns-clause-rests : goal.returns-clause-rests
returns-clause-rests g c =
    let again = rests_behind _ c.args.number _ _ c.args.place.now.me c.take-manager.new.place.me c.take-manager.result c.requires.rests c.take-manager.ensures.took c.give.new.place.me c.give.ensures.gave in
    rw again refl

pub returns-clause-entries : goal.returns-clause-entries
returns-clause-entries g c =
    let again = rests_behind _ c.args.number _ _ c.args.place.now.me c.take-manager.new.place.me c.take-manager.result c.requires.rests c.take-manager.ensures.took c.give.new.place.me c.give.ensures.gave in
    rw again c.entries-entries.ensures.count

pub returns-clause-legal : goal.returns-clause-legal
returns-clause-legal g c =
    let again = rests_behind _ c.args.number _ _ c.args.place.now.me c.take-manager.new.place.me c.take-manager.result c.requires.rests c.take-manager.ensures.took c.give.new.place.me c.give.ensures.gave in
    rw again (legal_found _ c.args.number _ _ c.args.place.now.me c.take-manager.new.place.me c.take-manager.result c.requires.rests c.take-manager.ensures.took)

pub returns-clause-standing : goal.returns-clause-standing
returns-clause-standing g c =
    let same : c.give.new.place.table_id ≡ c.args.place.now.table_id = c.give.ensures.same.0 ∙ c.take-manager.ensures.same.0 in
    let again = rests_behind _ c.args.number _ _ c.args.place.now.me c.take-manager.new.place.me c.take-manager.result c.requires.rests c.take-manager.ensures.took c.give.new.place.me c.give.ensures.gave in
    rw again (observed _ c.args.number _ _ c.args.place.now.me c.take-manager.new.place.me c.take-manager.result c.requires.rests c.take-manager.ensures.took _ _ same)

pub returns-clause-waiting : goal.returns-clause-waiting
returns-clause-waiting g c =
    let again = rests_behind _ c.args.number _ _ c.args.place.now.me c.take-manager.new.place.me c.take-manager.result c.requires.rests c.take-manager.ensures.took c.give.new.place.me c.give.ensures.gave in
    rw again (subst (λ (s : Settings). c.waiting-waiting.result ≡ length (pending s (past c.take-manager.result.history) c.args.ae))
    (settings_found _ c.args.number _ _ c.args.place.now.me c.take-manager.new.place.me c.take-manager.result c.requires.rests c.take-manager.ensures.took) c.waiting-waiting.ensures)
