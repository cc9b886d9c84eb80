use Rattle.std.proofs.Common.{◌≡◌, ℕ, inl, ◌+◌, ◌-◌, map, length, IsTrue, subst, sym, arith}
use Rattle.std.proofs.lemmas.List.{length-map}
use Rattle.sqlite_trees.specs.declared.store.Shape.TheVariants.{Table}
use Rattle.ups_store.specs.Rows.{stored_in_run}
use Rattle.ups_store.specs.Storing.{HasTooLarge}
use Rattle.ups_store.specs.Held.{IsAdding, Adds, HasDraft}
use Rattle.ups_store.proofs.Scans.{some_same}
use Rattle.ups_store.proofs.Steps.{clean_before, open_clean, sound_open}
use Rattle.ups_store.proofs.Drafted.{drafts_added, draft_added}
use Rattle.ups_store.proofs.Concluded.{is_given, on_given, last_kept, keeps_store, is_left, done_beside, crash_beside, cause_of}
use Rattle.ups_store.proofs.store.RequestStore.draft.Goals as goal

pub put_all-edited-requires-clause-table : goal.put_all-edited-requires-clause-table
put_all-edited-requires-clause-table g c clean sound =
    let it = c.args.self.now in
    let old = g.S.Store.view it.store in
    let up = sound_open old (g.met.S.Store.broken_if_shut it.store) sound in
    subst (λ (k : ℕ). old.shape k ≡ Table) (sym c.draft_beside-spare.ensures) (it.draft c.in-Some.drafted c.in-Some.is up).shaped

pub put_all-edited-requires-clause-adding : goal.put_all-edited-requires-clause-adding
put_all-edited-requires-clause-adding g c clean sound =
    let it = c.args.self.now in
    let old = g.S.Store.view it.store in
    let up = sound_open old (g.met.S.Store.broken_if_shut it.store) sound in
    subst (λ (k : ℕ). IsAdding old k c.in-Some.drafted) (sym c.draft_beside-spare.ensures) (it.draft c.in-Some.drafted c.in-Some.is up).adding

pub invariant_of-self-in-Err-1 : goal.invariant_of-self-in-Err-1
invariant_of-self-in-Err-1 g c =
    let it = c.args.self.now in
    let left = is_left _ _ _ it.table it.count it.drafted it.held it.draft (λ _. last_kept c.put_all-edited.ensures.kept) c.in-Err.ensures.ends in
    record { held = left.held; draft = left.draft }

pub invariant_of-self : goal.invariant_of-self
invariant_of-self g c =
    let it = c.args.self.now in
    let old = g.S.Store.view it.store in
    let mid = g.S.Store.view c.put_all-edited.new.store in
    let new = g.S.Store.view c.concluded.new.store in
    let t = it.table in
    let more = map (stored_in_run c.args.run) c.args.records.now in
    let ends = c.in-Ok.ensures.ends in
    let done = λ (up : IsTrue new.is_open). done_beside it.held c.put_all-edited.ensures.kept c.draft_beside-spare.ensures (λ ok. on_given _ ok c.put_all-edited.ensures.others) ends (open_clean new ends.shut up) in
    record {
      held = λ up. (done up).held;
      draft = λ n is up.
          let d = (done up).is in
          let added : Adds old mid (2 - t) more c.in-Some.drafted = subst (λ (k : ℕ). Adds old mid k more c.in-Some.drafted) c.draft_beside-spare.ensures (on_given _ (is_given ends.given) c.put_all-edited.ensures.added d.clean) in
          let all : c.in-Some.drafted + length more ≡ n = omega (arith, length-map c.args.records.now (stored_in_run c.args.run), c.in-Some-count_with.ensures.0, some_same is) in
          subst (HasDraft new t) all (draft_added old mid new t c.in-Some.drafted _ (it.draft c.in-Some.drafted c.in-Some.is d.up) c.put_all-edited.ensures.schema added d.commits);
    }

pub returns-in-Ok-clause-keeps : goal.returns-in-Ok-clause-keeps
returns-in-Ok-clause-keeps g c = keeps_store _ (λ _. last_kept c.put_all-edited.ensures.kept) c.put_all-edited.ensures.quiet.clean c.in-Ok.ensures.ends

pub returns-in-Err-clause-keeps : goal.returns-in-Err-clause-keeps
returns-in-Err-clause-keeps g c = keeps_store _ (λ _. last_kept c.put_all-edited.ensures.kept) c.put_all-edited.ensures.quiet.clean c.in-Err.ensures.ends

pub returns-in-Ok-clause-crash : goal.returns-in-Ok-clause-crash
returns-in-Ok-clause-crash g c db after =
    crash_beside c.args.self.now.held c.put_all-edited.ensures.kept c.draft_beside-spare.ensures (λ ok. on_given _ ok c.put_all-edited.ensures.others) c.concluded.ensures.ends c.put_all-edited.ensures.quiet.outcomes db (c.concluded.ensures.crash db after)

pub returns-in-Err-clause-crash : goal.returns-in-Err-clause-crash
returns-in-Err-clause-crash g c db after =
    crash_beside c.args.self.now.held c.put_all-edited.ensures.kept c.draft_beside-spare.ensures (λ ok. on_given _ ok c.put_all-edited.ensures.others) c.concluded.ensures.ends c.put_all-edited.ensures.quiet.outcomes db (c.concluded.ensures.crash db after)

pub returns-in-Ok-clause-requests : goal.returns-in-Ok-clause-requests
returns-in-Ok-clause-requests g c clean = (done_beside c.args.self.now.held c.put_all-edited.ensures.kept c.draft_beside-spare.ensures (λ ok. on_given _ ok c.put_all-edited.ensures.others) c.in-Ok.ensures.ends clean).requests

pub returns-in-Ok-clause-runs : goal.returns-in-Ok-clause-runs
returns-in-Ok-clause-runs g c clean = (done_beside c.args.self.now.held c.put_all-edited.ensures.kept c.draft_beside-spare.ensures (λ ok. on_given _ ok c.put_all-edited.ensures.others) c.in-Ok.ensures.ends clean).runs

pub returns-in-Ok-clause-added : goal.returns-in-Ok-clause-added
returns-in-Ok-clause-added g c clean =
    let it = c.args.self.now in
    let old = g.S.Store.view it.store in
    let mid = g.S.Store.view c.put_all-edited.new.store in
    let more = map (stored_in_run c.args.run) c.args.records.now in
    let d = done_beside it.held c.put_all-edited.ensures.kept c.draft_beside-spare.ensures (λ ok. on_given _ ok c.put_all-edited.ensures.others) c.in-Ok.ensures.ends clean in
    let added : Adds old mid (2 - it.table) more c.in-Some.drafted = subst (λ (k : ℕ). Adds old mid k more c.in-Some.drafted) c.draft_beside-spare.ensures (on_given _ (is_given c.in-Ok.ensures.ends.given) c.put_all-edited.ensures.added d.is.clean) in
    drafts_added old mid _ it.table it.count c.in-Some.drafted _ d.is.was d.stands added d.is.commits

pub returns-in-Err-clause-cause : goal.returns-in-Err-clause-cause
returns-in-Err-clause-cause g c clean =
    let old = g.S.Store.view c.args.self.now.store in
    let mid = g.S.Store.view c.put_all-edited.new.store in
    let before = clean_before mid (g.S.Store.view c.concluded.new.store) c.concluded.ensures.ends.clean clean in
    cause_of c.put_all-edited.result c.in-Err.fault old mid _ c.put_all-edited.ensures.quiet.counts c.concluded.ensures.counts (λ m. m) (λ b. inl b) (λ large. subst (λ (k : ℕ). HasTooLarge old k c.args.run c.args.records.now) c.draft_beside-spare.ensures large)
    (λ ok. (on_given _ ok c.put_all-edited.ensures.added before).adding.sound) (c.put_all-edited.ensures.cause before) (c.in-Err.ensures.cause clean)
