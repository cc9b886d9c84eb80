use Rattle.std.proofs.Common.{rules, ◌≡◌, ℕ, false, length, subst, sym, ap, ◌∙◌}
use Rattle.std.proofs.lemmas.List.{length-map}
use Rattle.sqlite_trees.specs.Tree.{Trees, put_row}
use Rattle.sqlite_trees.specs.View.{IsRolledBack}
use Rattle.ups_store.specs.declared.rewriting.Progress.TheVariants.{Putting}
use Rattle.ups_store.specs.Rows.{request_in, requests_in, table_in, IsNumbered}
use Rattle.ups_store.proofs.Tables.{requests_at}
use Rattle.ups_store.specs.Runs.{row_of_run}
use Rattle.ups_store.specs.Rewriting.{IsReplaced}
use Rattle.ups_store.proofs.Steps.{clean_before, open_clean, sound_open}
use Rattle.ups_store.proofs.Cleared.{tables_as, rolled_tables, committed_tables, sets_run, run_is_put, requests_beside, numbered_beside, committed_is, all_committed, committed_open, held_replaced, both_ways, swap}
use Rattle.ups_store.proofs.rewriting.Rewrite.commit.Goals as goal

pub put_run-requires : goal.put_run-requires
put_run-requires g c =
    let it = c.args.self.now in
    let whole : it.progress ≡ Putting = c.in-Putting.is in
    record { table = λ clean sound. (it.tables whole (sound_open (g.S.Store.view it.store) (g.met.S.Store.broken_if_shut it.store) sound)).tables.runs }

pub invariant_of-self-2 : goal.invariant_of-self-2
invariant_of-self-2 g c =
    let it = c.args.self.now in
    let old = g.S.Store.view it.store in
    let mid = g.S.Store.view c.put_run.new.store in
    let new = g.S.Store.view c.commit.new.self in
    let whole : it.progress ≡ Putting = c.in-Putting.is in
    record {
      held = λ _ up.
          let clean = open_clean new (g.met.S.Store.shut_if_dirty c.commit.new.self) up in
          let sets = c.in_ok-put_run.ensures.put (clean_before mid new c.commit.ensures.clean clean) in
          let putting = it.adding whole sets.sound in
          held_replaced old mid new _ it.table it.count (it.tables whole (sound_open old (g.met.S.Store.broken_if_shut it.store) sets.sound)) putting.tabled putting.adding c.put_run.ensures.schema sets (c.in_ok-commit.ensures.ok clean);
      tables = search rules;
      adding = search rules;
    }

pub returns-clause-replaced : goal.returns-clause-replaced
returns-clause-replaced g c clean =
    let it = c.args.self.now in
    let old = g.S.Store.view it.store in
    let mid = g.S.Store.view c.put_run.new.store in
    let new = g.S.Store.view c.commit.new.self in
    let whole : it.progress ≡ Putting = c.in-Putting.is in
    let sets = c.in_ok-put_run.ensures.put (clean_before mid new c.commit.ensures.clean clean) in
    ap requests_in (all_committed mid new (c.in_ok-commit.ensures.ok clean)) ∙ requests_beside old mid it.table _ (it.adding whole sets.sound).tabled sets

pub returns-clause-is_open : goal.returns-clause-is_open
returns-clause-is_open g c clean =
    let mid = g.S.Store.view c.put_run.new.store in
    let done = c.in_ok-commit.ensures.ok clean in
    committed_open mid (g.S.Store.view c.commit.new.self) done ∙ sound_open mid (g.met.S.Store.broken_if_shut c.put_run.new.store) done.sound

pub returns-clause-runs : goal.returns-clause-runs
returns-clause-runs g c clean =
    let it = c.args.self.now in
    let old = g.S.Store.view it.store in
    let mid = g.S.Store.view c.put_run.new.store in
    let new = g.S.Store.view c.commit.new.self in
    let whole : it.progress ≡ Putting = c.in-Putting.is in
    let sets = c.in_ok-put_run.ensures.put (clean_before mid new c.commit.ensures.clean clean) in
    let putting = it.adding whole sets.sound in
    let counted : length (requests_in old.trees) ≡ it.count = ap length (requests_at old.trees it.table putting.tabled) ∙ length-map (old.trees it.table) request_in ∙ putting.adding.counted in
    committed_is mid new 1 (c.in_ok-commit.ensures.ok clean) ∙ run_is_put old mid _ sets ∙ ap (λ (n : ℕ). put_row (row_of_run c.args.number c.args.run.now n) (old.trees 1)) (sym counted)

pub returns-in_err-put_run-clause-tables : goal.returns-in_err-put_run-clause-tables
returns-in_err-put_run-clause-tables g c tables clean = tables_as (g.S.Store.view c.args.self.now.store) (g.S.Store.view c.put_run.new.store) c.put_run.ensures.schema tables

pub returns-in_err-commit-clause-tables : goal.returns-in_err-commit-clause-tables
returns-in_err-commit-clause-tables g c tables clean =
    let mid = g.S.Store.view c.put_run.new.store in
    let new = g.S.Store.view c.commit.new.self in
    let back : IsRolledBack mid new = search rules in
    rolled_tables mid new back (tables_as (g.S.Store.view c.args.self.now.store) mid c.put_run.ensures.schema tables)

pub returns-clause-tables : goal.returns-clause-tables
returns-clause-tables g c tables clean =
    let mid = g.S.Store.view c.put_run.new.store in
    committed_tables mid (g.S.Store.view c.commit.new.self) (c.in_ok-commit.ensures.ok clean) (tables_as (g.S.Store.view c.args.self.now.store) mid c.put_run.ensures.schema tables)

pub returns-in_err-commit-clause-crash : goal.returns-in_err-commit-clause-crash
returns-in_err-commit-clause-crash g c db after =
    let it = c.args.self.now in
    let old = g.S.Store.view it.store in
    let mid = g.S.Store.view c.put_run.new.store in
    let whole : it.progress ≡ Putting = c.in-Putting.is in
    let has = λ (both : (mid.is_broken ≡ false) × (db ≡ mid.trees)).
    let sets = sets_run old mid (row_of_run c.args.number c.args.run.now it.count) (g.met.S.Store.shut_if_dirty c.put_run.new.store) (g.met.S.Store.broken_if_shut c.put_run.new.store) c.in_ok-put_run.ensures.put both.0 in
    let putting = it.adding whole sets.sound in
    let is : IsReplaced it db = record {
      sound = (whole, sets.sound);
      requests = ap requests_in both.1 ∙ requests_beside old mid it.table _ putting.tabled sets;
      numbered = subst (λ (d : Trees). IsNumbered (d (table_in d))) (sym both.1) (numbered_beside old mid it.table it.count _ putting.tabled putting.adding sets);
    } in
    is in
    let before = λ (between : g.S.Store.recovers c.put_run.new.store db). c.put_run.ensures.quiet.outcomes db between in
    swap (both_ways has before (c.commit.ensures.crash db after))

pub returns-clause-crash : goal.returns-clause-crash
returns-clause-crash g c db after =
    let it = c.args.self.now in
    let old = g.S.Store.view it.store in
    let mid = g.S.Store.view c.put_run.new.store in
    let whole : it.progress ≡ Putting = c.in-Putting.is in
    let has = λ (both : (mid.is_broken ≡ false) × (db ≡ mid.trees)).
    let sets = sets_run old mid (row_of_run c.args.number c.args.run.now it.count) (g.met.S.Store.shut_if_dirty c.put_run.new.store) (g.met.S.Store.broken_if_shut c.put_run.new.store) c.in_ok-put_run.ensures.put both.0 in
    let putting = it.adding whole sets.sound in
    let is : IsReplaced it db = record {
      sound = (whole, sets.sound);
      requests = ap requests_in both.1 ∙ requests_beside old mid it.table _ putting.tabled sets;
      numbered = subst (λ (d : Trees). IsNumbered (d (table_in d))) (sym both.1) (numbered_beside old mid it.table it.count _ putting.tabled putting.adding sets);
    } in
    is in
    let before = λ (between : g.S.Store.recovers c.put_run.new.store db). c.put_run.ensures.quiet.outcomes db between in
    swap (both_ways has before (c.commit.ensures.crash db after))
