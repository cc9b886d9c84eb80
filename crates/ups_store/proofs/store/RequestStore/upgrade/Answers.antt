use Rattle.std.proofs.Common.{◌≡◌, ap, ◌∙◌}
use Rattle.sqlite_trees.specs.Tree.{Trees}
use Rattle.sqlite_trees.specs.View.{View}
use Rattle.ups_store.specs.Format.{upgraded}
use Rattle.ups_store.proofs.Steps.{clean_before}
use Rattle.ups_store.proofs.Relisted.{held_listed, upgraded_as, current_as, requests_as}
use Rattle.ups_store.proofs.Drafted.{draft_listed}
use Rattle.ups_store.proofs.Concluded.{on_given, keeps_store, is_kept, once_done, crash_where, cause_told}
use Rattle.ups_store.proofs.store.RequestStore.upgrade.Goals as goal

pub invariant_of-self : goal.invariant_of-self
invariant_of-self g c =
    let it = c.args.self.now in
    let old = g.S.Store.view it.store in
    let mid = g.S.Store.view c.list_anew-edited.new.store in
    let new = g.S.Store.view c.concluded.new.store in
    let left = is_kept c.concluded.result old mid new it.table it.count it.drafted it.held it.draft c.list_anew-edited.ensures.stands c.concluded.ensures.ends
    (λ ok d. held_listed old mid new it.table it.count d.was (on_given _ ok c.list_anew-edited.ensures.listed d.clean) d.commits)
    (λ ok d n has. draft_listed old mid new it.table it.count n d.was has (on_given _ ok c.list_anew-edited.ensures.listed d.clean) d.commits) in
    record { held = left.held; draft = left.draft }

pub returns-clause-keeps : goal.returns-clause-keeps
returns-clause-keeps g c = keeps_store c.concluded.result c.list_anew-edited.ensures.stands c.list_anew-edited.ensures.quiet.clean c.concluded.ensures.ends

pub returns-clause-crash : goal.returns-clause-crash
returns-clause-crash g c db after =
    let old = g.S.Store.view c.args.self.now.store in
    crash_where (λ (d : Trees). d ≡ upgraded old.committed) c.args.self.now.held c.list_anew-edited.ensures.stands c.concluded.ensures.ends (λ ok clean up h. (on_given _ ok c.list_anew-edited.ensures.listed clean).trees ∙ ap upgraded h.same) c.list_anew-edited.ensures.quiet.outcomes db (c.concluded.ensures.crash db after)

pub returns-clause-format : goal.returns-clause-format
returns-clause-format g c =
    let it = c.args.self.now in
    once_done c.concluded.result it.held c.list_anew-edited.ensures.stands c.concluded.ensures.ends (λ ok d. current_as _ _ _ it.table it.count d.was (on_given _ ok c.list_anew-edited.ensures.listed d.clean) d.commits)

pub returns-clause-upgraded : goal.returns-clause-upgraded
returns-clause-upgraded g c =
    let it = c.args.self.now in
    once_done c.concluded.result it.held c.list_anew-edited.ensures.stands c.concluded.ensures.ends (λ ok d. upgraded_as _ _ _ it.table it.count d.was (on_given _ ok c.list_anew-edited.ensures.listed d.clean) d.commits)

pub returns-clause-requests : goal.returns-clause-requests
returns-clause-requests g c =
    let it = c.args.self.now in
    once_done c.concluded.result it.held c.list_anew-edited.ensures.stands c.concluded.ensures.ends (λ ok d. requests_as _ _ _ it.table it.count d.was (on_given _ ok c.list_anew-edited.ensures.listed d.clean) d.commits)

pub returns-clause-cause : goal.returns-clause-cause
returns-clause-cause g c clean =
    let old = g.S.Store.view c.args.self.now.store in
    let mid = g.S.Store.view c.list_anew-edited.new.store in
    let before = clean_before mid (g.S.Store.view c.concluded.new.store) c.concluded.ensures.ends.clean clean in
    cause_told c.list_anew-edited.result c.concluded.result old mid _ c.list_anew-edited.ensures.quiet.counts c.concluded.ensures.counts (λ m. m) (λ b. b) (λ large. large) (λ ok. let adds = (on_given _ ok c.list_anew-edited.ensures.listed before).adds in ap (λ (v : View). v.is_broken) adds.is ∙ adds.sound)
    (c.list_anew-edited.ensures.cause before) (c.concluded.ensures.cause clean)
