use Rattle.std.proofs.Common.{◌≡◌, true, List, ◌++◌, ◌∷◌, [], sym, subst, ap, ◌∙◌}
use Rattle.ups_keep.specs.Waits.{steps_of}
use Rattle.ups_life.specs.declared.entry.Entry.{Entry}
use Rattle.ups_life.specs.Steps.{past}
use Rattle.ups_life.specs.History.{legal}
use Rattle.ups_life.proofs.Past.{past-push}
use Rattle.ups_tables.specs.Planned.{removed_by}
use Rattle.ups_manager.specs.Indexing.{after_change, indexed_steps}
use Rattle.ups_manager.proofs.entry.enter.Goals as goal

pub apply-requires-clause-legal : goal.apply-requires-clause-legal
apply-requires-clause-legal g c = subst (λ (l : List (Entry g.row.A.Denot)). legal c.args.configuration.now (c.args.call ∷ past l) ≡ true) (sym c.make_all_room.ensures.history) c.requires.legal

pub returns-clause-done : goal.returns-clause-done
returns-clause-done g c = c.apply.ensures.history ∙ ap (λ (l : List (Entry g.row.A.Denot)). l ++ c.args.call ∷ []) c.make_all_room.ensures.history

pub returns-clause-indexed : goal.returns-clause-indexed
returns-clause-indexed g c =
    let s = c.args.configuration.now in
    let d = c.args.decision in
    let before = c.args.history.now.entries in
    let after = c.apply.ensures.history ∙ ap (λ (l : List (Entry g.row.A.Denot)). l ++ c.args.call ∷ []) c.make_all_room.ensures.history in
    record {
      offset = c.apply.ensures.offset ∙ c.make_all_room.ensures.indexed.offset;
      steps = c.apply.ensures.steps
          ∙ ap (after_change d.change (steps_of (removed_by d.plan))) (c.make_all_room.ensures.steps ∙ c.requires.indexed.steps)
          ∙ c.requires.decided.index
          ∙ sym (ap (indexed_steps s) (ap past after ∙ past-push before c.args.call));
    }
