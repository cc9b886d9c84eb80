use Rattle.std.proofs.Common.{◌≤◌, IsTrue, inl, sym, subst}
use Rattle.sqlite_disk.specs.Disk.{MoreFaults}
use Rattle.sqlite_store.specs.FileStore.{view}
use Rattle.sqlite_store.specs.Unopened.{state_of, image, HasSomeFile, IsFullFile, CanCreate}
use Rattle.sqlite_trees.specs.View.{IsClean}
use Rattle.ups_store.specs.Found.{used_page, ListsNothing}
use Rattle.ups_store.specs.Refused.{faults_in, AreCleanFiles, MeetsLimit, because, HasOpenReason}
use Rattle.ups_store.proofs.Opened.{if_ok, if_err_both, more_from, clean_back, faults_back, reason_as}
use Rattle.ups_store.proofs.opening.completed.Goals as goal

pub returns-in-Ok-None-clause-nothing : goal.returns-in-Ok-None-clause-nothing
returns-in-Ok-None-clause-nothing g c =
    let it = c.args.files in
    let then = c.format_of.new.files in
    if_ok (λ store. IsClean (view store) → IsTrue (state_of then).is_clean) (λ store. IsClean (view store) → ListsNothing used_page (image it)) c.made.result
    (λ store honest clean. c.in-Ok-None.ensures.nothing (honest clean) c.in-Ok-None.field-0-is) c.made.ensures.honest

pub returns-in-Ok-None-clause-cause : goal.returns-in-Ok-None-clause-cause
returns-in-Ok-None-clause-cause g c =
    let it = c.args.files in
    let then = c.format_of.new.files in
    if_err_both (λ r. AreCleanFiles g.D.Disk r.files → HasOpenReason (because (MoreFaults (state_of then).faults (faults_in g.D.Disk r.files)) (MeetsLimit g.D.Disk r.files) (¬ CanCreate then)) r.fault)
    (λ r. AreCleanFiles g.D.Disk r.files → IsTrue (state_of then).is_clean × ((state_of then).faults ≤ faults_in g.D.Disk r.files))
    (λ r. AreCleanFiles g.D.Disk r.files → HasOpenReason (record { Failed = MoreFaults (state_of it).faults (faults_in g.D.Disk r.files); AtLimit = MeetsLimit g.D.Disk r.files; Refused = Unit {0}; IsMissing = ⊥; LogIsAlone = ⊥; IsThere = Unit {0} }) r.fault) c.made.result
    (λ r cause falls clean.
    let was = falls clean in
    reason_as (MoreFaults (state_of then).faults (faults_in g.D.Disk r.files)) (MeetsLimit g.D.Disk r.files) (¬ CanCreate then)
    (record { Failed = MoreFaults (state_of it).faults (faults_in g.D.Disk r.files); AtLimit = MeetsLimit g.D.Disk r.files; Refused = Unit {0}; IsMissing = ⊥; LogIsAlone = ⊥; IsThere = Unit {0} }) r.fault
    (λ f. more_from _ _ _ (c.format_of.ensures.falls was.0).1 f) (λ l. l) (λ _. tt) (cause clean))
    c.made.ensures.cause c.made.ensures.falls

pub returns-in-Err-clause-cause : goal.returns-in-Err-clause-cause
returns-in-Err-clause-cause g c clean =
    let it = c.args.files in
    let then = c.format_of.new.files in
    let files = c.close.result in
    reason_as (MoreFaults (state_of it).faults (state_of then).faults) (IsFullFile then) (¬ HasSomeFile it)
    (record { Failed = MoreFaults (state_of it).faults (faults_in g.D.Disk files); AtLimit = MeetsLimit g.D.Disk files; Refused = Unit {0}; IsMissing = ⊥; LogIsAlone = ⊥; IsThere = Unit {0} }) c.in-Err.fault
    (λ f. subst (MoreFaults (state_of it).faults) (faults_back then files c.close.ensures) f) (λ l. (then, sym c.close.ensures, inl l)) (λ _. tt)
    (c.in-Err.ensures.cause (clean_back then files c.close.ensures clean))

pub returns-in-Err-clause-falls : goal.returns-in-Err-clause-falls
returns-in-Err-clause-falls g c clean = (c.format_of.ensures.falls (clean_back c.format_of.new.files c.close.result c.close.ensures clean)).0

pub returns-in-Ok-Some-clause-falls : goal.returns-in-Ok-Some-clause-falls
returns-in-Ok-Some-clause-falls g c clean = (c.format_of.ensures.falls (clean_back c.format_of.new.files c.close-in-Ok-Some.result c.close-in-Ok-Some.ensures clean)).0
