use Rattle.std.proofs.Common.{◌≡◌, inl, inr, sym, subst}
use Rattle.sqlite_store.specs.FileStore.{view}
use Rattle.sqlite_trees.specs.View.{View, IsClean}
use Rattle.ups_store.specs.declared.opening.OpenRefusal.{OpenRefusal}
use Rattle.ups_store.specs.Found.{image_of, FindsIn}
use Rattle.ups_store.specs.Refused.{AreCleanFiles, HasOpenReason, reasons}
use Rattle.ups_store.specs.Shown.{shown_by}
use Rattle.ups_store.specs.declared.fault.OpenFault.TheVariants as faults
use Rattle.ups_store.proofs.Opened.{if_ok, if_err, kind_reason}
use Rattle.ups_store.proofs.opening.open_files.Goals as goal

pub returns-in-Ok-clause-found : goal.returns-in-Ok-clause-found
returns-in-Ok-clause-found g c =
    if_ok (λ r. shown_by r ≡ view c.in-Ok.store) (λ r. IsClean (shown_by r) → FindsIn (image_of g.D.Disk c.args.files) (shown_by r).committed) c.replay_over.result
    (λ r is. subst (λ (v : View). IsClean v → FindsIn (image_of g.D.Disk c.args.files) v.committed) (sym is) c.in-Ok.ensures.found) c.replay_over.ensures.same

pub returns-in-Ok-clause-cause : goal.returns-in-Ok-clause-cause
returns-in-Ok-clause-cause g c =
    if_err (λ r. r.fault ≡ faults.Memory) (λ r. AreCleanFiles g.D.Disk r.files → HasOpenReason (reasons g.D.Disk c.args.files r.files) r.fault) c.replay_over.result
    (λ r is clean. subst (HasOpenReason (reasons g.D.Disk c.args.files r.files)) (sym is) tt) c.replay_over.ensures.fault

pub returns-in-Err-clause-cause : goal.returns-in-Err-clause-cause
returns-in-Err-clause-cause g c clean =
    let files = c.args.files in
    let old = c.in-Err.refusal in
    let new = c.told_apart.result in
    let cause = c.in-Err.ensures.cause (c.told_apart.ensures.falls clean).0 in
    elim c.told_apart.ensures.fault [
      | inl same ↦ subst (λ (r : OpenRefusal g.row.D.Denot). HasOpenReason (reasons g.D.Disk files r.files) r.fault) (sym same) cause
      | inr both ↦ kind_reason (reasons g.D.Disk files new.files) new.fault both.1 (subst (HasOpenReason (reasons g.D.Disk files old.files)) both.0 cause)
    ]
