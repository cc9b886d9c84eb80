use Rattle.std.proofs.Common.{◌≡◌, List, ◌∷◌, ◌++◌, length, sym, subst, ap, ◌∙◌, arith}
use Rattle.std.proofs.lemmas.List.{append_assoc, append-nil, length-append}
use Rattle.std.specs.List.{All}
use Rattle.std.specs.Vec.Iter.{into_iter_items}
use Rattle.ups_life.specs.declared.entry.Entry.{Entry}
use Rattle.ups_life.specs.Settings.{IsMoment}
use Rattle.ups_service.specs.Law.{is_legal}
use Rattle.ups_restore.proofs.Legally.{only_room, refusal_of}
use Rattle.ups_restore.proofs.Runs.{taken_front, nothing_left, All-middle}
use Rattle.ups_restore.proofs.replaying.replay.Goals as goal

pub returns-in-Err-clause-stops : goal.returns-in-Err-clause-stops
returns-in-Err-clause-stops g c =
    let before = c.args.manager.now.history in
    let front = c.loop-entry.yielded in
    let rest = into_iter_items c.next.new.self in
    let items : c.args.entries.items ≡ front ++ c.in-Some.entry ∷ rest =
    sym c.into_iter-entry-iterator.ensures.into_iter_gives.0
    ∙ (taken_front c.into_iter-entry-iterator.result front c.loop-entry.entry-iterator c.loop-entry.yielded_by ∙ ap (λ (es : List (Entry _)). front ++ es) c.in-Some.ensures.steps.0) in
    let stays : c.replay_one.new.manager.history ≡ c.loop-entry.manager.history = c.in-Err.ensures.stays in
    let now : c.replay_one.new.manager.history ≡ before ++ front = stays ∙ c.loop-entry.invariant.history in
    record {
      front = front;
      entry = c.in-Some.entry;
      rest = rest;
      parts = items;
      place = omega (arith, ap length now, length-append before front, c.entries.ensures.count, c.entries-before.ensures.count);
      entered = now;
      why = refusal_of c.loop-entry.manager.settings c.args.manager.now.settings c.loop-entry.manager.history c.replay_one.new.manager.history c.in-Some.entry c.in-Err.refusal c.loop-entry.invariant.settings (sym stays) c.in-Err.ensures.why;
    }

pub returns-in-Err-clause-legally : goal.returns-in-Err-clause-legally
returns-in-Err-clause-legally g c = λ l ms.
    let before = c.args.manager.now.history in
    let front = c.loop-entry.yielded in
    let rest = into_iter_items c.next.new.self in
    let items : c.args.entries.items ≡ front ++ c.in-Some.entry ∷ rest =
    sym c.into_iter-entry-iterator.ensures.into_iter_gives.0
    ∙ (taken_front c.into_iter-entry-iterator.result front c.loop-entry.entry-iterator c.loop-entry.yielded_by ∙ ap (λ (es : List (Entry _)). front ++ es) c.in-Some.ensures.steps.0) in
    let goes : before ++ c.args.entries.items ≡ (before ++ front) ++ c.in-Some.entry ∷ rest = ap (λ (es : List (Entry _)). before ++ es) items ∙ sym (append_assoc before front (c.in-Some.entry ∷ rest)) in
    only_room c.args.manager.now.settings (before ++ front) c.in-Some.entry rest c.in-Err.refusal
    (subst (λ (es : List (Entry _)). is_legal c.args.manager.now.settings es) goes l)
    (All-middle (λ (e : Entry _). IsMoment e.moment) front c.in-Some.entry rest (subst (λ (es : List (Entry _)). All (λ (e : Entry _). IsMoment e.moment) es) items ms))
    (refusal_of c.loop-entry.manager.settings c.args.manager.now.settings c.loop-entry.manager.history (before ++ front) c.in-Some.entry c.in-Err.refusal c.loop-entry.invariant.settings c.loop-entry.invariant.history c.in-Err.ensures.why)

pub returns-clause-entered : goal.returns-clause-entered
returns-clause-entered g c =
    let front = c.loop-entry.yielded in
    let items : c.args.entries.items ≡ front =
    sym c.into_iter-entry-iterator.ensures.into_iter_gives.0
    ∙ (taken_front c.into_iter-entry-iterator.result front c.loop-entry.entry-iterator c.loop-entry.yielded_by ∙ (ap (λ (es : List (Entry _)). front ++ es) (nothing_left c.loop-entry.entry-iterator c.in-None.ensures.steps.0) ∙ append-nil front)) in
    c.loop-entry.invariant.history ∙ ap (λ (es : List (Entry _)). c.args.manager.now.history ++ es) (sym items)
