use Rattle.std.proofs.Common.{rules, subst, ap, ◌∙◌, arith}
use Rattle.sqlite_trees.specs.Tree.{Trees}
use Rattle.ups_store.specs.Held.{IsAdding}
use Rattle.ups_store.proofs.Steps.{open_clean, sound_open}
use Rattle.ups_store.proofs.Cleared.{none_said, table_as}
use Rattle.ups_store.proofs.Tables.{low_from, not_runs, table_stays, requests_at}
use Rattle.ups_store.proofs.rewriting.Rewrite.begin.Goals as goal

pub delete_all-requires-clause-adding : goal.delete_all-requires-clause-adding
delete_all-requires-clause-adding g c clean sound =
    let it = c.args.self.now in
    let old = g.S.Store.view it.store in
    subst (IsAdding old it.table) (omega (arith, c.in-Some.ensures.0)) (it.held c.in-Resting.is (sound_open old (g.met.S.Store.broken_if_shut it.store) sound)).adding

pub invariant_of-self-2 : goal.invariant_of-self-2
invariant_of-self-2 g c =
    let it = c.args.self.now in
    let old = g.S.Store.view it.store in
    let new = g.S.Store.view c.delete_all.new.store in
    record {
      held = search rules;
      tables = λ _ up. table_as old new it.table c.delete_all.ensures.schema (it.held c.in-Resting.is (c.delete_all.ensures.kept.was_open up)).has;
      adding = λ _ sound.
          let up = sound_open new (g.met.S.Store.broken_if_shut c.delete_all.new.store) sound in
          let clean = open_clean new (g.met.S.Store.shut_if_dirty c.delete_all.new.store) up in
          let h = it.held c.in-Resting.is (c.delete_all.ensures.kept.was_open up) in
          record { adding = c.in_ok-delete_all.ensures.none clean; tabled = table_stays old new it.table (low_from _ it.table h.tabled) (c.in_ok-delete_all.ensures.others clean) ∙ h.tabled };
    }

pub returns-clause-empty : goal.returns-clause-empty
returns-clause-empty g c clean =
    let it = c.args.self.now in
    let old = g.S.Store.view it.store in
    let new = g.S.Store.view c.delete_all.new.store in
    let h = it.held c.in-Resting.is (sound_open old (g.met.S.Store.broken_if_shut it.store) (c.in_ok-delete_all.ensures.sound clean)) in
    requests_at new.trees it.table (table_stays old new it.table (low_from _ it.table h.tabled) (c.in_ok-delete_all.ensures.others clean) ∙ h.tabled) ∙ none_said (new.trees it.table) (c.in_ok-delete_all.ensures.none clean).counted

pub returns-clause-runs : goal.returns-clause-runs
returns-clause-runs g c clean =
    let it = c.args.self.now in
    let old = g.S.Store.view it.store in
    let sound = c.in_ok-delete_all.ensures.sound clean in
    let h = it.held c.in-Resting.is (sound_open old (g.met.S.Store.broken_if_shut it.store) sound) in
    c.in_ok-delete_all.ensures.others clean 1 (not_runs it.table (low_from _ it.table h.tabled)) ∙ ap (λ (db : Trees). db 1) h.same
