use Rattle.std.proofs.Common.{◌≡◌, ℕ, ◌+◌, ◌<◌, ◌≤◌, ◌^◌, ◌++◌, [], ◌∷◌, length, false, inl, inr, subst, ap, ◌∙◌, arith}
use Rattle.sqlite_trees.specs.View.{IsStorableRow}
use Rattle.sqlite_trees.specs.Tree.{Trees}
use Rattle.ups_store.specs.Rows.{requests_in}
use Rattle.ups_store.specs.Runs.{row_of_run, last_runs, last_number, last_requests}
use Rattle.ups_store.proofs.Steps.{clean_before, sound_open}
use Rattle.ups_store.proofs.Begun.{runs_entered, is_behind, runs_table}
use Rattle.ups_store.proofs.Behind.{put_behind}
use Rattle.ups_store.proofs.Drafted.{stands_run, requests_beside}
use Rattle.ups_store.proofs.Concluded.{last_kept, keeps_store, is_kept_run, once_done, once_given, entered, entered_one, tables_kept, crash_run, run_told}
use Rattle.ups_store.proofs.store.RequestStore.begin_run.Goals as goal

pub invariant_of-self : goal.invariant_of-self
invariant_of-self g c =
    let it = c.args.self.now in
    let left = is_kept_run c.concluded.result _ _ _ it.table it.count it.drafted it.held it.draft c.enter_run-edited.ensures.kept (λ ok clean. (entered_one _ ok c.enter_run-edited.ensures.enters clean).1.others) c.concluded.ensures.ends in
    record { held = left.held; draft = left.draft }

pub returns-clause-keeps : goal.returns-clause-keeps
returns-clause-keeps g c = keeps_store c.concluded.result (λ _. last_kept c.enter_run-edited.ensures.kept) c.enter_run-edited.ensures.quiet.clean c.concluded.ensures.ends

pub returns-clause-tables : goal.returns-clause-tables
returns-clause-tables g c = tables_kept c.concluded.result c.args.self.now.held c.enter_run-edited.ensures.kept c.concluded.ensures.ends

pub returns-clause-crash : goal.returns-clause-crash
returns-clause-crash g c db after =
    elim (crash_run c.args.self.now.held c.enter_run-edited.ensures.kept (λ ok clean. (entered_one _ ok c.enter_run-edited.ensures.enters clean).1.others) c.concluded.ensures.ends c.enter_run-edited.ensures.quiet.outcomes db (c.concluded.ensures.crash db after)) [
      | inl before ↦ inl before
      | inr said ↦ inr (said.1, said.2)
    ]

pub returns-clause-number : goal.returns-clause-number
returns-clause-number g c =
    let it = c.args.self.now in
    let old = g.S.Store.view it.store in
    let mid = g.S.Store.view c.enter_run-edited.new.store in
    once_given (λ (number : ℕ). (number ≡ last_number (old.committed 1) + 1) × (number < 2 ^ 63)) c.concluded.result it.held (λ _. last_kept c.enter_run-edited.ensures.kept) c.concluded.ensures.ends
    (λ number is d. let behind = is_behind old mid it.table number it.count c.args.run.now d.was (entered _ number is c.enter_run-edited.ensures.enters d.clean) in (behind.behind, behind.low))

pub returns-clause-enough : goal.returns-clause-enough
returns-clause-enough g c =
    let it = c.args.self.now in
    let old = g.S.Store.view it.store in
    let mid = g.S.Store.view c.enter_run-edited.new.store in
    once_done c.concluded.result it.held (λ _. last_kept c.enter_run-edited.ensures.kept) c.concluded.ensures.ends
    (λ ok d. let one = entered_one _ ok c.enter_run-edited.ensures.enters d.clean in (is_behind old mid it.table one.0 it.count c.args.run.now d.was one.1).enough)

pub returns-clause-begun : goal.returns-clause-begun
returns-clause-begun g c =
    let it = c.args.self.now in
    let run = c.args.run.now in
    let old = g.S.Store.view it.store in
    let mid = g.S.Store.view c.enter_run-edited.new.store in
    let new = g.S.Store.view c.concluded.new.store in
    once_given (λ (number : ℕ). new.committed 1 ≡ last_runs number (old.committed 1 ++ row_of_run number run (length (requests_in old.committed)) ∷ [])) c.concluded.result it.held (λ _. last_kept c.enter_run-edited.ensures.kept) c.concluded.ensures.ends
    (λ number is d.
    let enters = entered _ number is c.enter_run-edited.ensures.enters d.clean in
    let behind = is_behind old mid it.table number it.count run d.was enters in
    let table = runs_table old it.table it.count d.was (g.met.S.Store.ordered it.store d.was.adding.sound) in
    runs_entered old mid new it.table number it.count run d.was enters d.commits ∙ ap (last_runs number) (put_behind (old.committed 1) number run _ table.0 table.1 behind.low (omega (arith, behind.behind))))

pub returns-clause-requests : goal.returns-clause-requests
returns-clause-requests g c =
    let it = c.args.self.now in
    let old = g.S.Store.view it.store in
    let mid = g.S.Store.view c.enter_run-edited.new.store in
    once_done c.concluded.result it.held (λ _. last_kept c.enter_run-edited.ensures.kept) c.concluded.ensures.ends
    (λ ok d. requests_beside old mid _ it.table it.count d.was (stands_run old mid it.table d.was.tabled (entered_one _ ok c.enter_run-edited.ensures.enters d.clean).1.others) d.commits)

pub returns-clause-cause : goal.returns-clause-cause
returns-clause-cause g c clean =
    let it = c.args.self.now in
    let old = g.S.Store.view it.store in
    let mid = g.S.Store.view c.enter_run-edited.new.store in
    let before = clean_before mid (g.S.Store.view c.concluded.new.store) c.concluded.ensures.ends.clean clean in
    let same = λ (sound : old.is_broken ≡ false). (it.held (sound_open old (g.met.S.Store.broken_if_shut it.store) sound)).same in
    run_told _ _ c.enter_run-edited.result c.concluded.result mid _ _ _ _ (λ f. omega (arith, f, c.concluded.ensures.counts)) (λ w. w)
    (λ l. subst (λ (db : Trees). ¬ IsStorableRow (old.reals 1) (row_of_run (last_number (db 1) + 1) c.args.run.now it.count)) (same l.0) l.1)
    (λ m. subst (λ (db : Trees). 2 ^ 63 ≤ last_number (db 1) + 1) (same m.0) m.1) (λ n. n)
    (λ s. subst (λ (db : Trees). it.count < last_requests (db 1)) (same s.0) s.1)
    (λ f. omega (arith, f, c.enter_run-edited.ensures.quiet.counts)) (λ ok. (entered_one _ ok c.enter_run-edited.ensures.enters before).1.stays) (c.enter_run-edited.ensures.cause before) (c.concluded.ensures.cause clean)
