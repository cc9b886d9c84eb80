use Rattle.std.proofs.Common.{◌≡◌, ◌∙◌, ◌+◌, length, refl, ap, arith}
use Rattle.std.proofs.lemmas.List.{length-append}
use Rattle.std.proofs.lemmas.Option.{MatchOption-at_some}
use Rattle.ups_service.specs.Law.{Answers, entered}
use Rattle.ups_turn.proofs.Turns.{given_in, may_give, rests_again, legal_again, answered}
use Rattle.ups_turn.proofs.turn.call_in_turn.Goals as goal

pub give-requires-clause-may : goal.give-requires-clause-may
give-requires-clause-may g c =
    let e = c.answer_as-reply.ensures in
    let given = given_in c.args.ask.now c.requires.given e.history in
    let added = entered c.args.number c.args.ae c.args.moment given.0 c.answer_as-reply.result in
    let more : length c.answer_as-reply.new.self.history ≡ length c.take-manager.result.history + length added = ap length given.2 ∙ length-append c.take-manager.result.history added in
    let was = c.entries-before.ensures.count in
    let now = c.entries-after.ensures.count in
    may_give _ c.args.number _ _ c.args.ae c.args.moment given.0 c.answer_as-reply.result c.args.place.now.me c.take-manager.new.place.me c.take-manager.result c.answer_as-reply.new.self c.requires.rests c.take-manager.ensures.took given.2 e.settings _ (omega arith) e.legal_after

pub returns-clause-rests : goal.returns-clause-rests
returns-clause-rests g c =
    let e = c.answer_as-reply.ensures in
    let given = given_in c.args.ask.now c.requires.given e.history in
    let again = rests_again _ c.args.number _ _ c.args.ae c.args.moment given.0 c.answer_as-reply.result c.args.place.now.me c.take-manager.new.place.me c.take-manager.result c.answer_as-reply.new.self c.requires.rests c.take-manager.ensures.took given.2 e.settings c.give.new.place.me c.give.ensures.gave in
    rw again refl

pub returns-clause-entries : goal.returns-clause-entries
returns-clause-entries g c =
    let e = c.answer_as-reply.ensures in
    let given = given_in c.args.ask.now c.requires.given e.history in
    let again = rests_again _ c.args.number _ _ c.args.ae c.args.moment given.0 c.answer_as-reply.result c.args.place.now.me c.take-manager.new.place.me c.take-manager.result c.answer_as-reply.new.self c.requires.rests c.take-manager.ensures.took given.2 e.settings c.give.new.place.me c.give.ensures.gave in
    rw again c.entries-after.ensures.count

pub returns-clause-legal : goal.returns-clause-legal
returns-clause-legal g c =
    let e = c.answer_as-reply.ensures in
    let given = given_in c.args.ask.now c.requires.given e.history in
    let again = rests_again _ c.args.number _ _ c.args.ae c.args.moment given.0 c.answer_as-reply.result c.args.place.now.me c.take-manager.new.place.me c.take-manager.result c.answer_as-reply.new.self c.requires.rests c.take-manager.ensures.took given.2 e.settings c.give.new.place.me c.give.ensures.gave in
    rw again (legal_again _ c.args.number _ _ c.args.ae c.args.moment given.0 c.answer_as-reply.result c.args.place.now.me c.take-manager.new.place.me c.take-manager.result c.answer_as-reply.new.self c.requires.rests c.take-manager.ensures.took given.2 e.settings e.legal_after)

pub returns-clause-served : goal.returns-clause-served
returns-clause-served g c =
    let e = c.answer_as-reply.ensures in
    let given = given_in c.args.ask.now c.requires.given e.history in
    let again = rests_again _ c.args.number _ _ c.args.ae c.args.moment given.0 c.answer_as-reply.result c.args.place.now.me c.take-manager.new.place.me c.take-manager.result c.answer_as-reply.new.self c.requires.rests c.take-manager.ensures.took given.2 e.settings c.give.new.place.me c.give.ensures.gave in
    let answer = MatchOption-at_some _ (λ asked. Answers c.take-manager.result.settings c.take-manager.result.history c.args.number c.args.ae c.args.moment asked c.answer_as-reply.result) given.0 given.1 e.answer in
    rw (again, given.1) (answered _ c.args.number _ _ c.args.ae c.args.moment given.0 c.answer_as-reply.result c.args.place.now.me c.take-manager.new.place.me c.take-manager.result c.answer_as-reply.new.self c.requires.rests c.take-manager.ensures.took given.2 e.settings _ _ (c.give.ensures.same.0 ∙ c.take-manager.ensures.same.0) answer)
