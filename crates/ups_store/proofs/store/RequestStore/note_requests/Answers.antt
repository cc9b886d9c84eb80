use Rattle.std.proofs.Common.{ap, ◌∙◌}
use Rattle.sqlite_trees.specs.View.{View}
use Rattle.ups_store.proofs.Steps.{clean_before}
use Rattle.ups_store.proofs.Begun.{runs_noted}
use Rattle.ups_store.proofs.Tables.{drafts_beside}
use Rattle.ups_store.proofs.Drafted.{stands_run, requests_beside}
use Rattle.ups_store.proofs.Concluded.{on_given, last_kept, keeps_store, is_kept_run, once_done, tables_kept, crash_run, cause_told}
use Rattle.ups_store.proofs.store.RequestStore.note_requests.Goals as goal

pub invariant_of-self : goal.invariant_of-self
invariant_of-self g c =
    let it = c.args.self.now in
    let left = is_kept_run c.concluded.result _ _ _ it.table it.count it.drafted it.held it.draft c.put_run-edited.ensures.kept (λ ok. on_given _ ok c.put_run-edited.ensures.others) c.concluded.ensures.ends in
    record { held = left.held; draft = left.draft }

pub returns-clause-keeps : goal.returns-clause-keeps
returns-clause-keeps g c = keeps_store c.concluded.result (λ _. last_kept c.put_run-edited.ensures.kept) c.put_run-edited.ensures.quiet.clean c.concluded.ensures.ends

pub returns-clause-tables : goal.returns-clause-tables
returns-clause-tables g c = tables_kept c.concluded.result c.args.self.now.held c.put_run-edited.ensures.kept c.concluded.ensures.ends

pub returns-clause-crash : goal.returns-clause-crash
returns-clause-crash g c db after = crash_run c.args.self.now.held c.put_run-edited.ensures.kept (λ ok. on_given _ ok c.put_run-edited.ensures.others) c.concluded.ensures.ends c.put_run-edited.ensures.quiet.outcomes db (c.concluded.ensures.crash db after)

pub returns-clause-noted : goal.returns-clause-noted
returns-clause-noted g c =
    let it = c.args.self.now in
    once_done c.concluded.result it.held (λ _. last_kept c.put_run-edited.ensures.kept) c.concluded.ensures.ends (λ ok d. runs_noted _ _ _ it.table c.args.number it.count c.args.run.now d.was (on_given _ ok c.put_run-edited.ensures.put d.clean) d.commits)

pub returns-clause-requests : goal.returns-clause-requests
returns-clause-requests g c =
    let it = c.args.self.now in
    let old = g.S.Store.view it.store in
    let mid = g.S.Store.view c.put_run-edited.new.store in
    once_done c.concluded.result it.held (λ _. last_kept c.put_run-edited.ensures.kept) c.concluded.ensures.ends (λ ok d. requests_beside old mid _ it.table it.count d.was (stands_run old mid it.table d.was.tabled (on_given _ ok c.put_run-edited.ensures.others d.clean)) d.commits)

pub returns-clause-drafts : goal.returns-clause-drafts
returns-clause-drafts g c =
    let it = c.args.self.now in
    let old = g.S.Store.view it.store in
    let mid = g.S.Store.view c.put_run-edited.new.store in
    once_done c.concluded.result it.held (λ _. last_kept c.put_run-edited.ensures.kept) c.concluded.ensures.ends (λ ok d. drafts_beside old mid _ d.was.same (on_given _ ok c.put_run-edited.ensures.others d.clean) d.commits)

pub returns-clause-cause : goal.returns-clause-cause
returns-clause-cause g c clean =
    let old = g.S.Store.view c.args.self.now.store in
    let mid = g.S.Store.view c.put_run-edited.new.store in
    let before = clean_before mid (g.S.Store.view c.concluded.new.store) c.concluded.ensures.ends.clean clean in
    cause_told c.put_run-edited.result c.concluded.result old mid _ c.put_run-edited.ensures.quiet.counts c.concluded.ensures.counts (λ m. m) (λ b. b) (λ large. large) (λ ok. let sets = on_given _ ok c.put_run-edited.ensures.put before in ap (λ (v : View). v.is_broken) sets.is ∙ sets.sound) (c.put_run-edited.ensures.cause before) (c.concluded.ensures.cause clean)
