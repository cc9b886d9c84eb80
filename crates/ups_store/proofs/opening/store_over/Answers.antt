use Rattle.std.proofs.Common.{inl, inr, subst}
use Rattle.sqlite_disk.specs.Disk.{MoreFaults}
use Rattle.sqlite_wal.specs.Recovery.{Image}
use Rattle.sqlite_store.specs.FileStore.{view}
use Rattle.sqlite_trees.specs.View.{IsClean}
use Rattle.ups_store.specs.Found.{image_of, FindsIn}
use Rattle.ups_store.specs.Refused.{faults_in, AreCleanFiles, IsLongLog, IsAlone, HasOpenReason, reasons}
use Rattle.ups_store.proofs.Opened.{if_ok, if_err, image_kept, reason_all, reasons_kept}
use Rattle.ups_store.proofs.opening.store_over.Goals as goal

pub returns-in-Ok-true-clause-cause : goal.returns-in-Ok-true-clause-cause
returns-in-Ok-true-clause-cause g c clean = inl (c.in-Ok-true.ensures.fresh clean c.in-Ok-true.field-0-test)

pub returns-in-Ok-false-clause-found : goal.returns-in-Ok-false-clause-found
returns-in-Ok-false-clause-found g c =
    let same = image_kept c.args.files c.is_new.new.files c.is_new.ensures.log c.is_new.ensures.db in
    if_ok (λ store. IsClean (view store) → FindsIn (image_of g.D.Disk c.is_new.new.files) (view store).committed) (λ store. IsClean (view store) → FindsIn (image_of g.D.Disk c.args.files) (view store).committed) c.held_in.result
    (λ store h clean. subst (λ (i : Image). FindsIn i (view store).committed) same (h clean)) c.held_in.ensures.found

pub returns-in-Ok-false-clause-cause : goal.returns-in-Ok-false-clause-cause
returns-in-Ok-false-clause-cause g c =
    let old = c.args.files in
    let mid = c.is_new.new.files in
    if_err (λ r. AreCleanFiles g.D.Disk r.files → HasOpenReason (reasons g.D.Disk mid r.files) r.fault)
    (λ r. AreCleanFiles g.D.Disk r.files → HasOpenReason (reasons g.D.Disk old r.files) r.fault) c.held_in.result
    (λ r cause clean. reasons_kept old mid r.files r.fault c.is_new.ensures.log c.is_new.ensures.db c.is_new.ensures.counts (cause clean)) c.held_in.ensures.cause

pub returns-in-Err-clause-cause : goal.returns-in-Err-clause-cause
returns-in-Err-clause-cause g c clean =
    let old = c.args.files in
    let new = c.is_new.new.files in
    reason_all (record { Failed = MoreFaults (faults_in g.D.Disk old) (faults_in g.D.Disk new); AtLimit = IsLongLog g.D.Disk old; Refused = ⊥; IsMissing = ⊥; LogIsAlone = IsAlone g.D.Disk old; IsThere = ⊥ }) (reasons g.D.Disk old new) c.in-Err.fault
    (λ f. inl f) (λ l. inr l) (λ no. absurd no) (λ no. absurd no) (λ a. a) (λ no. no) (c.in-Err.ensures.cause clean)
