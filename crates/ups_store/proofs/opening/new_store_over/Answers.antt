use Rattle.std.proofs.Common.{inl, inr, subst}
use Rattle.sqlite_disk.specs.Disk.{MoreFaults}
use Rattle.sqlite_wal.specs.Recovery.{Image}
use Rattle.sqlite_store.specs.FileStore.{view}
use Rattle.sqlite_trees.specs.View.{IsClean}
use Rattle.ups_store.specs.Found.{image_of, HasNone, MakesIn}
use Rattle.ups_store.specs.Refused.{faults_in, AreCleanFiles, MeetsLimit, IsLongLog, IsAlone, HasOpenReason, because, creation_reasons}
use Rattle.ups_store.proofs.Opened.{if_ok, if_err, if_both, if_err_both, more_from, image_kept, reason_as, reason_all}
use Rattle.ups_store.proofs.opening.new_store_over.Goals as goal

pub returns-in-Ok-true-clause-made : goal.returns-in-Ok-true-clause-made
returns-in-Ok-true-clause-made g c =
    if_both (λ store. IsClean (view store) → HasNone (view store).committed) (λ store. IsClean (view store) → AreCleanFiles g.D.Disk c.is_new.new.files) (λ store. IsClean (view store) → MakesIn (image_of g.D.Disk c.args.files) (view store).committed) c.made_in.result
    (λ store empty honest clean. (inl (c.in-Ok-true.ensures.fresh (honest clean) c.in-Ok-true.field-0-test), empty clean)) c.made_in.ensures.empty c.made_in.ensures.honest

pub returns-in-Ok-true-clause-cause : goal.returns-in-Ok-true-clause-cause
returns-in-Ok-true-clause-cause g c =
    let old = c.args.files in
    let mid = c.is_new.new.files in
    if_err (λ r. AreCleanFiles g.D.Disk r.files → HasOpenReason (because (MoreFaults (faults_in g.D.Disk mid) (faults_in g.D.Disk r.files)) (MeetsLimit g.D.Disk r.files) (Unit {0})) r.fault)
    (λ r. AreCleanFiles g.D.Disk r.files → HasOpenReason (creation_reasons g.D.Disk old r.files) r.fault) c.made_in.result
    (λ r cause clean. reason_as (MoreFaults (faults_in g.D.Disk mid) (faults_in g.D.Disk r.files)) (MeetsLimit g.D.Disk r.files) (Unit {0}) (creation_reasons g.D.Disk old r.files) r.fault
    (λ f. inl (more_from _ _ _ c.is_new.ensures.counts f)) (λ l. inl l) (λ _. tt) (cause clean)) c.made_in.ensures.cause

pub returns-in-Ok-false-clause-made : goal.returns-in-Ok-false-clause-made
returns-in-Ok-false-clause-made g c =
    let same = image_kept c.args.files c.is_new.new.files c.is_new.ensures.log c.is_new.ensures.db in
    if_ok (λ store. IsClean (view store) → MakesIn (image_of g.D.Disk c.is_new.new.files) (view store).committed) (λ store. IsClean (view store) → MakesIn (image_of g.D.Disk c.args.files) (view store).committed) c.completed_in.result
    (λ store h clean. subst (λ (i : Image). MakesIn i (view store).committed) same (h clean)) c.completed_in.ensures.made

pub returns-in-Ok-false-clause-cause : goal.returns-in-Ok-false-clause-cause
returns-in-Ok-false-clause-cause g c =
    let old = c.args.files in
    let mid = c.is_new.new.files in
    if_err_both (λ r. AreCleanFiles g.D.Disk r.files → HasOpenReason (record { Failed = MoreFaults (faults_in g.D.Disk mid) (faults_in g.D.Disk r.files); AtLimit = MeetsLimit g.D.Disk r.files; Refused = Unit {0}; IsMissing = ⊥; LogIsAlone = ⊥; IsThere = Unit {0} }) r.fault)
    (λ r. AreCleanFiles g.D.Disk r.files → AreCleanFiles g.D.Disk mid)
    (λ r. AreCleanFiles g.D.Disk r.files → HasOpenReason (creation_reasons g.D.Disk old r.files) r.fault) c.completed_in.result
    (λ r cause honest clean. reason_all (record { Failed = MoreFaults (faults_in g.D.Disk mid) (faults_in g.D.Disk r.files); AtLimit = MeetsLimit g.D.Disk r.files; Refused = Unit {0}; IsMissing = ⊥; LogIsAlone = ⊥; IsThere = Unit {0} }) (creation_reasons g.D.Disk old r.files) r.fault
    (λ f. inl (more_from _ _ _ c.is_new.ensures.counts f)) (λ l. inl l) (λ w. w) (λ m. m) (λ a. absurd a) (λ _. c.in-Ok-false.ensures.there (honest clean) c.in-Ok-false.field-0-test) (cause clean)) c.completed_in.ensures.cause c.completed_in.ensures.falls

pub returns-in-Err-clause-cause : goal.returns-in-Err-clause-cause
returns-in-Err-clause-cause g c clean =
    let old = c.args.files in
    let new = c.is_new.new.files in
    reason_all (record { Failed = MoreFaults (faults_in g.D.Disk old) (faults_in g.D.Disk new); AtLimit = IsLongLog g.D.Disk old; Refused = ⊥; IsMissing = ⊥; LogIsAlone = IsAlone g.D.Disk old; IsThere = ⊥ }) (creation_reasons g.D.Disk old new) c.in-Err.fault
    (λ f. inl f) (λ l. inr l) (λ _. tt) (λ no. no) (λ a. a) (λ no. absurd no) (c.in-Err.ensures.cause clean)
