use Rattle.std.proofs.Common.{◌≡◌, ℕ, ◌-◌, ◌<◌, ◌≤◌, Bool, true, false, IsTrue, Some, is_some, inl, refl, subst, sym, ap, ◌∙◌}
use Rattle.std.specs.Bool.{then_some}
use Rattle.sqlite_trees.specs.declared.store.Shape.TheVariants.{Table}
use Rattle.ups_store.specs.Drafting.{Cuts}
use Rattle.ups_store.specs.Held.{HasDraft}
use Rattle.ups_store.proofs.Steps.{clean_before, open_clean}
use Rattle.ups_store.proofs.Drafted.{drafts_cut, drafts_counted, nothing_left, draft_emptied, cut_beside}
use Rattle.ups_store.proofs.Scans.{some_same}
use Rattle.ups_store.proofs.Concluded.{cut_given, cut_is, last_kept, keeps_store, is_left, done_beside, crash_beside, cause_of}
use Rattle.ups_store.proofs.store.RequestStore.clear_drafts.Goals as goal

pub invariant_of-self-in-Err-1 : goal.invariant_of-self-in-Err-1
invariant_of-self-in-Err-1 g c =
    let it = c.args.self.now in
    let left = is_left _ _ _ it.table it.count it.drafted it.held it.draft (λ _. last_kept c.delete_ends-edited.ensures.kept) c.in-Err.ensures.ends in
    record { held = left.held; draft = λ n is up. absurd (cc) }

pub invariant_of-self : goal.invariant_of-self
invariant_of-self g c =
    let it = c.args.self.now in
    let old = g.S.Store.view it.store in
    let mid = g.S.Store.view c.delete_ends-edited.new.store in
    let new = g.S.Store.view c.concluded.new.store in
    let t = it.table in
    let ends = c.in-Ok.ensures.ends in
    let done = λ (up : IsTrue new.is_open). done_beside it.held c.delete_ends-edited.ensures.kept c.draft_beside-spare.ensures (λ ok clean. (cut_given _ ok c.delete_ends-edited.ensures.cut clean).1.others) ends (open_clean new ends.shut up) in
    record {
      held = λ up. (done up).held;
      draft = λ n is up.
          let d = (done up).is in
          let both = is_none c.in-Ok.none n (sym c.then_some-self.ensures ∙ is) in
          let cut : Cuts old mid (2 - t) c.args.most true = subst (Cuts old mid (2 - t) c.args.most) both.0 (cut_beside old mid t _ c.args.most c.in-Ok.none c.draft_beside-spare.ensures (cut_is _ c.in-Ok.none ends.given c.delete_ends-edited.ensures.cut d.clean)) in
          let shaped : old.shape (2 - t) ≡ Table = ap old.shape (sym c.draft_beside-spare.ensures) ∙ sym c.shape.ensures ∙ c.in-Table.is in
          subst (HasDraft new t) both.1 (draft_emptied old mid new t it.count c.args.most d.was shaped c.delete_ends-edited.ensures.schema cut d.commits);
    }
  where
    is_none : (none : Bool) (n : ℕ) → then_some none 0 ≡ Some n → (none ≡ true) × (0 ≡ n)
    is_none true n is = (refl, some_same is)
    is_none false n is = absurd (cc)

pub returns-in-Ok-clause-keeps : goal.returns-in-Ok-clause-keeps
returns-in-Ok-clause-keeps g c = keeps_store _ (λ _. last_kept c.delete_ends-edited.ensures.kept) c.delete_ends-edited.ensures.quiet.clean c.in-Ok.ensures.ends

pub returns-in-Err-clause-keeps : goal.returns-in-Err-clause-keeps
returns-in-Err-clause-keeps g c = keeps_store _ (λ _. last_kept c.delete_ends-edited.ensures.kept) c.delete_ends-edited.ensures.quiet.clean c.in-Err.ensures.ends

pub returns-in-Ok-clause-crash : goal.returns-in-Ok-clause-crash
returns-in-Ok-clause-crash g c db after =
    crash_beside c.args.self.now.held c.delete_ends-edited.ensures.kept c.draft_beside-spare.ensures (λ ok clean. (cut_given _ ok c.delete_ends-edited.ensures.cut clean).1.others) c.concluded.ensures.ends c.delete_ends-edited.ensures.quiet.outcomes db (c.concluded.ensures.crash db after)

pub returns-in-Err-clause-crash : goal.returns-in-Err-clause-crash
returns-in-Err-clause-crash g c db after =
    crash_beside c.args.self.now.held c.delete_ends-edited.ensures.kept c.draft_beside-spare.ensures (λ ok clean. (cut_given _ ok c.delete_ends-edited.ensures.cut clean).1.others) c.concluded.ensures.ends c.delete_ends-edited.ensures.quiet.outcomes db (c.concluded.ensures.crash db after)

pub returns-in-Ok-clause-requests : goal.returns-in-Ok-clause-requests
returns-in-Ok-clause-requests g c clean = (done_beside c.args.self.now.held c.delete_ends-edited.ensures.kept c.draft_beside-spare.ensures (λ ok now. (cut_given _ ok c.delete_ends-edited.ensures.cut now).1.others) c.in-Ok.ensures.ends clean).requests

pub returns-in-Ok-clause-runs : goal.returns-in-Ok-clause-runs
returns-in-Ok-clause-runs g c clean = (done_beside c.args.self.now.held c.delete_ends-edited.ensures.kept c.draft_beside-spare.ensures (λ ok now. (cut_given _ ok c.delete_ends-edited.ensures.cut now).1.others) c.in-Ok.ensures.ends clean).runs

pub returns-in-Ok-clause-left : goal.returns-in-Ok-clause-left
returns-in-Ok-clause-left g c clean =
    let it = c.args.self.now in
    let old = g.S.Store.view it.store in
    let mid = g.S.Store.view c.delete_ends-edited.new.store in
    let new = g.S.Store.view c.concluded.new.store in
    let d = (done_beside it.held c.delete_ends-edited.ensures.kept c.draft_beside-spare.ensures (λ ok now. (cut_given _ ok c.delete_ends-edited.ensures.cut now).1.others) c.in-Ok.ensures.ends clean).is in
    let cut = cut_beside old mid it.table _ c.args.most c.in-Ok.none c.draft_beside-spare.ensures (cut_is _ c.in-Ok.none c.in-Ok.ensures.ends.given c.delete_ends-edited.ensures.cut d.clean) in
    drafts_cut old mid new it.table it.count c.args.most c.in-Ok.none d.was cut d.commits

pub returns-in-Ok-clause-none : goal.returns-in-Ok-clause-none
returns-in-Ok-clause-none g c clean is =
    let it = c.args.self.now in
    let old = g.S.Store.view it.store in
    let mid = g.S.Store.view c.delete_ends-edited.new.store in
    let new = g.S.Store.view c.concluded.new.store in
    let d = (done_beside it.held c.delete_ends-edited.ensures.kept c.draft_beside-spare.ensures (λ ok now. (cut_given _ ok c.delete_ends-edited.ensures.cut now).1.others) c.in-Ok.ensures.ends clean).is in
    let cut = cut_beside old mid it.table _ c.args.most c.in-Ok.none c.draft_beside-spare.ensures (cut_is _ c.in-Ok.none c.in-Ok.ensures.ends.given c.delete_ends-edited.ensures.cut d.clean) in
    nothing_left c.args.most _ _ (subst (λ (n : ℕ). n < c.args.most) (sym (drafts_counted old it.table it.count d.was)) (cut.few is)) (drafts_cut old mid new it.table it.count c.args.most c.in-Ok.none d.was cut d.commits)

pub returns-in-Ok-clause-some : goal.returns-in-Ok-clause-some
returns-in-Ok-clause-some g c clean is =
    let it = c.args.self.now in
    let old = g.S.Store.view it.store in
    let mid = g.S.Store.view c.delete_ends-edited.new.store in
    let new = g.S.Store.view c.concluded.new.store in
    let d = (done_beside it.held c.delete_ends-edited.ensures.kept c.draft_beside-spare.ensures (λ ok now. (cut_given _ ok c.delete_ends-edited.ensures.cut now).1.others) c.in-Ok.ensures.ends clean).is in
    let cut = cut_beside old mid it.table _ c.args.most c.in-Ok.none c.draft_beside-spare.ensures (cut_is _ c.in-Ok.none c.in-Ok.ensures.ends.given c.delete_ends-edited.ensures.cut d.clean) in
    subst (λ (n : ℕ). c.args.most ≤ n) (sym (drafts_counted old it.table it.count d.was)) (cut.many is)

pub returns-in-Ok-clause-drafting : goal.returns-in-Ok-clause-drafting
returns-in-Ok-clause-drafting g c is = ap is_some c.then_some-self.ensures ∙ ap (λ (b : Bool). is_some {T = ℕ} (then_some b 0)) is

pub returns-in-Err-clause-cause : goal.returns-in-Err-clause-cause
returns-in-Err-clause-cause g c clean =
    let old = g.S.Store.view c.args.self.now.store in
    let mid = g.S.Store.view c.delete_ends-edited.new.store in
    let before = clean_before mid (g.S.Store.view c.concluded.new.store) c.concluded.ensures.ends.clean clean in
    cause_of c.delete_ends-edited.result c.in-Err.fault old mid _ c.delete_ends-edited.ensures.quiet.counts c.concluded.ensures.counts (λ m. m) (λ b. inl b) (λ n. absurd n) (λ ok. (cut_given _ ok c.delete_ends-edited.ensures.cut before).1.stays) (c.delete_ends-edited.ensures.cause before) (c.in-Err.ensures.cause clean)
