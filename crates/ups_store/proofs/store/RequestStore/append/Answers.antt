use Rattle.std.proofs.Common.{◌≡◌, ◌+◌, ◌-◌, map, length, subst, sym, ap, ◌∙◌, arith}
use Rattle.std.proofs.lemmas.List.{length-map}
use Rattle.sqlite_trees.specs.View.{View, IsClean}
use Rattle.sqlite_trees.specs.Tree.{Trees}
use Rattle.ups_store.specs.Rows.{stored_in_run, requests_in}
use Rattle.ups_store.specs.Held.{IsAdding, LeavesOthers}
use Rattle.ups_store.proofs.Tables.{low_from, not_runs, table_stays, drafts_stay}
use Rattle.ups_store.proofs.Steps.{clean_before, open_clean, held_committed, says_added}
use Rattle.ups_store.proofs.Drafted.{not_other, draft_stays}
use Rattle.ups_store.proofs.Concluded.{is_given, on_given, last_kept, keeps_store, is_left, is_done, crash_of, cause_of}
use Rattle.ups_store.proofs.store.RequestStore.append.Goals as goal

pub invariant_of-self-in-Err-1 : goal.invariant_of-self-in-Err-1
invariant_of-self-in-Err-1 g c =
    let it = c.args.self.now in
    let left = is_left _ _ _ it.table it.count it.drafted it.held it.draft (λ _. last_kept c.put_all-edited.ensures.kept) c.in-Err.ensures.ends in
    record { held = left.held; draft = left.draft }

pub invariant_of-self : goal.invariant_of-self
invariant_of-self g c =
    let it = c.args.self.now in
    let old = g.S.Store.view it.store in
    let mid = g.S.Store.view c.put_all-edited.new.store in
    let new = g.S.Store.view c.concluded.new.store in
    let t = it.table in
    let ends = c.in-Ok.ensures.ends in
    let ok = is_given ends.given in
    let kept = c.put_all-edited.ensures.kept in
    let others : IsClean mid → LeavesOthers old mid t = on_given _ ok c.put_all-edited.ensures.others in
    record {
      held = λ up.
          let d = is_done it.held (λ _. last_kept kept) ends (open_clean new ends.shut up) in
          let all : it.count + length (map (stored_in_run c.args.run) c.args.records.now) ≡ c.in-Some.count = omega (arith, length-map c.args.records.now (stored_in_run c.args.run), c.in-Some.ensures.0) in
          held_committed old mid new t it.count c.in-Some.count it.held d.up c.put_all-edited.ensures.schema (table_stays old mid t (low_from _ _ d.was.tabled) (others d.clean)) (subst (IsAdding mid t) all (on_given _ ok c.put_all-edited.ensures.added d.clean).adding) d.commits;
      draft = λ n is up.
          let d = is_done it.held (λ _. last_kept kept) ends (open_clean new ends.shut up) in
          draft_stays old mid new t n (it.draft n is d.up) c.put_all-edited.ensures.schema (others d.clean (2 - t) (λ e. not_other t (low_from _ _ d.was.tabled) (sym e))) d.commits;
    }

pub returns-in-Ok-clause-keeps : goal.returns-in-Ok-clause-keeps
returns-in-Ok-clause-keeps g c = keeps_store _ (λ _. last_kept c.put_all-edited.ensures.kept) c.put_all-edited.ensures.quiet.clean c.in-Ok.ensures.ends

pub returns-in-Err-clause-keeps : goal.returns-in-Err-clause-keeps
returns-in-Err-clause-keeps g c = keeps_store _ (λ _. last_kept c.put_all-edited.ensures.kept) c.put_all-edited.ensures.quiet.clean c.in-Err.ensures.ends

pub returns-in-Ok-clause-crash : goal.returns-in-Ok-clause-crash
returns-in-Ok-clause-crash g c db after =
    crash_of _ c.args.self.now.held (λ _. last_kept c.put_all-edited.ensures.kept) c.concluded.ensures.ends (λ ok clean _ h. says_added _ _ _ _ _ h (on_given _ ok c.put_all-edited.ensures.added clean) (on_given _ ok c.put_all-edited.ensures.others clean)) c.put_all-edited.ensures.quiet.outcomes db (c.concluded.ensures.crash db after)

pub returns-in-Err-clause-crash : goal.returns-in-Err-clause-crash
returns-in-Err-clause-crash g c db after =
    crash_of _ c.args.self.now.held (λ _. last_kept c.put_all-edited.ensures.kept) c.concluded.ensures.ends (λ ok clean _ h. says_added _ _ _ _ _ h (on_given _ ok c.put_all-edited.ensures.added clean) (on_given _ ok c.put_all-edited.ensures.others clean)) c.put_all-edited.ensures.quiet.outcomes db (c.concluded.ensures.crash db after)

pub returns-in-Ok-clause-added : goal.returns-in-Ok-clause-added
returns-in-Ok-clause-added g c clean =
    let d = is_done c.args.self.now.held (λ _. last_kept c.put_all-edited.ensures.kept) c.in-Ok.ensures.ends clean in
    let ok = is_given c.in-Ok.ensures.ends.given in
    ap (λ (v : View). requests_in v.committed) d.commits.is ∙ (says_added _ _ _ _ _ d.was (on_given _ ok c.put_all-edited.ensures.added d.clean) (on_given _ ok c.put_all-edited.ensures.others d.clean)).0

pub returns-in-Ok-clause-runs : goal.returns-in-Ok-clause-runs
returns-in-Ok-clause-runs g c clean =
    let d = is_done c.args.self.now.held (λ _. last_kept c.put_all-edited.ensures.kept) c.in-Ok.ensures.ends clean in
    ap (λ (v : View). v.committed 1) d.commits.is ∙ on_given _ (is_given c.in-Ok.ensures.ends.given) c.put_all-edited.ensures.others d.clean 1 (not_runs _ (low_from _ _ d.was.tabled)) ∙ ap (λ (db : Trees). db 1) d.was.same

pub returns-in-Ok-clause-drafts : goal.returns-in-Ok-clause-drafts
returns-in-Ok-clause-drafts g c clean =
    let d = is_done c.args.self.now.held (λ _. last_kept c.put_all-edited.ensures.kept) c.in-Ok.ensures.ends clean in
    drafts_stay (g.S.Store.view c.args.self.now.store) (g.S.Store.view c.put_all-edited.new.store) (g.S.Store.view c.concluded.new.store) c.args.self.now.table d.was.tabled d.was.same (on_given _ (is_given c.in-Ok.ensures.ends.given) c.put_all-edited.ensures.others d.clean) d.commits

pub returns-in-Err-clause-cause : goal.returns-in-Err-clause-cause
returns-in-Err-clause-cause g c clean =
    let old = g.S.Store.view c.args.self.now.store in
    let mid = g.S.Store.view c.put_all-edited.new.store in
    let before = clean_before mid (g.S.Store.view c.concluded.new.store) c.concluded.ensures.ends.clean clean in
    cause_of c.put_all-edited.result c.in-Err.fault old mid _ c.put_all-edited.ensures.quiet.counts c.concluded.ensures.counts (λ m. m) (λ b. b) (λ large. large) (λ ok. (on_given _ ok c.put_all-edited.ensures.added before).adding.sound) (c.put_all-edited.ensures.cause before) (c.in-Err.ensures.cause clean)
