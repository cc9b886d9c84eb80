use Rattle.std.proofs.Common.{List, inl, sym, ap, subst, ◌∙◌}
use Rattle.std.specs.List.{AllByRecursion}
use Rattle.ups_life.specs.Steps.{past}
use Rattle.ups_life.proofs.Past.{past-push}
use Rattle.ups_tables.specs.declared.rows.HeldStep.{HeldStep}
use Rattle.ups_tables.specs.HeldSteps.{held_steps}
use Rattle.ups_manager.specs.Held.{IsSmallStep}
use Rattle.ups_manager.proofs.Entering.{answers_full, succeeds, legal_with, moments_after}
use Rattle.ups_manager.proofs.Remembering.{remembers_more, remembers_same}
use Rattle.ups_manager.proofs.answering.answer_call.Goals as goal

pub enter-requires-clause-legal : goal.enter-requires-clause-legal
enter-requires-clause-legal g c =
    let s = c.args.configuration.now in
    let history = c.args.history.now.entries in
    let call = c.args.call in
    let d = c.in-Ok.ensures.decided in
    let room = c.in-Ok.ensures.room in
    legal_with s history call c.in-Ok.decision.reply c.requires.stands.tables.legal d.reply d.accepted room

pub returns-in-Ok-enter-clause-answer : goal.returns-in-Ok-enter-clause-answer
returns-in-Ok-enter-clause-answer g c =
    let s = c.args.configuration.now in
    let history = c.args.history.now.entries in
    let call = c.args.call in
    let d = c.in-Ok.ensures.decided in
    let room = c.in-Ok.ensures.room in
    inl (c.in-Ok-enter.ensures.reply ∙ sym (succeeds s history call c.in-Ok.decision.reply d.reply room))

pub returns-in-Ok-enter-clause-stands : goal.returns-in-Ok-enter-clause-stands
returns-in-Ok-enter-clause-stands g c =
    let s = c.args.configuration.now in
    let history = c.args.history.now.entries in
    let call = c.args.call in
    let d = c.in-Ok.ensures.decided in
    let done = c.in-Ok-enter.ensures.done in
    record {
      offset = c.requires.stands.offset;
      moments = moments_after history c.enter.new.history.entries call c.requires.stands.moments c.requires.moment done;
      tables = c.enter.ensures.stands;
      small = subst (λ (l : List (HeldStep g.row.A.Denot)). AllByRecursion IsSmallStep l) (sym (ap (held_steps s) (ap past done ∙ past-push history call))) d.small;
    }

pub returns-in-Err-enter-clause-answer : goal.returns-in-Err-enter-clause-answer
returns-in-Err-enter-clause-answer g c =
    let s = c.args.configuration.now in
    let history = c.args.history.now.entries in
    let call = c.args.call in
    let d = c.in-Ok.ensures.decided in
    answers_full s history call c.in-Ok.decision.reply d.reply d.accepted

pub returns-in-Ok-enter-clause-remembers : goal.returns-in-Ok-enter-clause-remembers
returns-in-Ok-enter-clause-remembers g c =
    let s = c.args.configuration.now in
    let history = c.args.history.now.entries in
    let call = c.args.call in
    let d = c.in-Ok.ensures.decided in
    remembers_more s c.args.history.now c.enter.new.history call (legal_with s history call c.in-Ok.decision.reply c.requires.stands.tables.legal d.reply d.accepted c.in-Ok.ensures.room)
    c.in-Ok-enter.ensures.done c.enter.ensures.memory c.requires.remembers

pub returns-in-Err-enter-clause-remembers : goal.returns-in-Err-enter-clause-remembers
returns-in-Err-enter-clause-remembers g c = remembers_same c.args.configuration.now c.args.history.now c.enter.new.history c.in-Err-enter.ensures.refused c.enter.ensures.memory c.requires.remembers
