use Rattle.std.proofs.Common.{◌⊎◌, ℕ, Option, unwrap_or, inl, subst, sym, ap, ◌∙◌}
use Rattle.sqlite_trees.specs.Objects.{catalog_tree}
use Rattle.sqlite_trees.specs.Tree.{put_row}
use Rattle.sqlite_trees.specs.View.{View, IsStorableRow}
use Rattle.ups_store.specs.Exchanging.{CannotExchange}
use Rattle.ups_store.specs.Rows.{drafts_in}
use Rattle.ups_store.specs.Runs.{row_of_run}
use Rattle.ups_store.specs.Held.{Holds}
use Rattle.ups_store.proofs.Steps.{clean_before, open_clean}
use Rattle.ups_store.proofs.Exchanged.{held_exchanged, requests_exchanged, drafts_exchanged, runs_exchanged, draft_is, says_exchanged}
use Rattle.ups_store.proofs.Concluded.{is_given, on_given, keeps_store, is_left, is_done, crash_of, cause_of}
use Rattle.ups_store.proofs.store.RequestStore.exchange.Goals as goal

pub invariant_of-self-in-Err-1 : goal.invariant_of-self-in-Err-1
invariant_of-self-in-Err-1 g c =
    let it = c.args.self.now in
    let left = is_left _ _ _ it.table it.count it.drafted it.held it.draft c.exchange_tables-edited.ensures.stands c.in-Err.ensures.ends in
    record { held = left.held; draft = left.draft }

pub invariant_of-self : goal.invariant_of-self
invariant_of-self g c =
    let it = c.args.self.now in
    let old = g.S.Store.view it.store in
    let mid = g.S.Store.view c.exchange_tables-edited.new.store in
    let new = g.S.Store.view c.concluded.new.store in
    let n = c.in-Some.drafted in
    let ends = c.in-Ok.ensures.ends in
    record {
      held = λ up.
          let d = is_done it.held c.exchange_tables-edited.ensures.stands ends (open_clean new ends.shut up) in
          let exchanges = on_given _ (is_given ends.given) c.exchange_tables-edited.ensures.exchanges d.clean in
          subst (λ (k : ℕ). Holds new k n) (sym c.draft_beside-spare.ensures) (held_exchanged old mid new it.table it.count n _ d.was (it.draft n c.in-Some.is d.up) exchanges d.commits);
      draft = λ k is up. absurd (cc);
    }

pub returns-in-Ok-clause-keeps : goal.returns-in-Ok-clause-keeps
returns-in-Ok-clause-keeps g c = keeps_store _ c.exchange_tables-edited.ensures.stands c.exchange_tables-edited.ensures.quiet.clean c.in-Ok.ensures.ends

pub returns-in-Err-clause-keeps : goal.returns-in-Err-clause-keeps
returns-in-Err-clause-keeps g c = keeps_store _ c.exchange_tables-edited.ensures.stands c.exchange_tables-edited.ensures.quiet.clean c.in-Err.ensures.ends

pub returns-in-Ok-clause-crash : goal.returns-in-Ok-clause-crash
returns-in-Ok-clause-crash g c db after =
    let it = c.args.self.now in
    let old = g.S.Store.view it.store in
    let n = c.in-Some.drafted in
    crash_of (drafts_in old.committed) it.held c.exchange_tables-edited.ensures.stands c.concluded.ensures.ends
    (λ ok clean up h. says_exchanged old _ it.table it.count n _ h (it.draft n c.in-Some.is up) (on_given _ ok c.exchange_tables-edited.ensures.exchanges clean)) c.exchange_tables-edited.ensures.quiet.outcomes db (c.concluded.ensures.crash db after)

pub returns-in-Err-clause-crash : goal.returns-in-Err-clause-crash
returns-in-Err-clause-crash g c db after =
    let it = c.args.self.now in
    let old = g.S.Store.view it.store in
    let n = c.in-Some.drafted in
    crash_of (drafts_in old.committed) it.held c.exchange_tables-edited.ensures.stands c.concluded.ensures.ends
    (λ ok clean up h. says_exchanged old _ it.table it.count n _ h (it.draft n c.in-Some.is up) (on_given _ ok c.exchange_tables-edited.ensures.exchanges clean)) c.exchange_tables-edited.ensures.quiet.outcomes db (c.concluded.ensures.crash db after)

pub returns-in-Ok-clause-exchanged : goal.returns-in-Ok-clause-exchanged
returns-in-Ok-clause-exchanged g c clean =
    let it = c.args.self.now in
    let ends = c.in-Ok.ensures.ends in
    let d = is_done it.held c.exchange_tables-edited.ensures.stands ends clean in
    requests_exchanged _ _ _ it.table it.count _ d.was (on_given _ (is_given ends.given) c.exchange_tables-edited.ensures.exchanges d.clean) d.commits

pub returns-in-Ok-clause-left : goal.returns-in-Ok-clause-left
returns-in-Ok-clause-left g c clean =
    let it = c.args.self.now in
    let ends = c.in-Ok.ensures.ends in
    let d = is_done it.held c.exchange_tables-edited.ensures.stands ends clean in
    drafts_exchanged _ _ _ it.table it.count _ d.was (on_given _ (is_given ends.given) c.exchange_tables-edited.ensures.exchanges d.clean) d.commits

pub returns-in-Ok-clause-noted : goal.returns-in-Ok-clause-noted
returns-in-Ok-clause-noted g c clean =
    let it = c.args.self.now in
    let old = g.S.Store.view it.store in
    let n = c.in-Some.drafted in
    let ends = c.in-Ok.ensures.ends in
    let d = is_done it.held c.exchange_tables-edited.ensures.stands ends clean in
    runs_exchanged old _ _ it.table it.count _ d.was (on_given _ (is_given ends.given) c.exchange_tables-edited.ensures.exchanges d.clean) d.commits
    ∙ ap (λ (k : ℕ). put_row (row_of_run c.args.number c.args.run.now k) (old.committed 1)) (draft_is old it.table it.count n d.was (it.draft n c.in-Some.is d.up))

pub returns-in-Err-clause-cause : goal.returns-in-Err-clause-cause
returns-in-Err-clause-cause g c clean =
    let it = c.args.self.now in
    let old = g.S.Store.view it.store in
    let mid = g.S.Store.view c.exchange_tables-edited.new.store in
    let before = clean_before mid (g.S.Store.view c.concluded.new.store) c.concluded.ensures.ends.clean clean in
    cause_of c.exchange_tables-edited.result c.in-Err.fault old mid _ c.exchange_tables-edited.ensures.quiet.counts c.concluded.ensures.counts (λ m. m) (λ b. inl b)
    (λ large. subst (λ (k : ℕ). (¬ IsStorableRow (old.reals 1) (row_of_run c.args.number c.args.run.now k)) ⊎ CannotExchange it.table (old.trees catalog_tree)) (sym (ap (λ (o : Option ℕ). unwrap_or o 0) c.in-Some.is)) large)
    (λ ok. let exchanges = on_given _ ok c.exchange_tables-edited.ensures.exchanges before in ap (λ (v : View). v.is_broken) exchanges.is ∙ exchanges.sound) (c.exchange_tables-edited.ensures.cause before) (c.in-Err.ensures.cause clean)
