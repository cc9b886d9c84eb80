use Rattle.std.proofs.Common.{◌≡◌, sym, subst}
use Rattle.sqlite_store.specs.FileStore.{view}
use Rattle.sqlite_trees.specs.View.{View, IsClean}
use Rattle.ups_store.specs.Found.{image_of, MakesIn}
use Rattle.ups_store.specs.Refused.{AreCleanFiles, HasOpenReason, creation_reasons}
use Rattle.ups_store.specs.Shown.{shown_by}
use Rattle.ups_store.specs.declared.fault.OpenFault.TheVariants as faults
use Rattle.ups_store.proofs.Opened.{if_ok, if_err}
use Rattle.ups_store.proofs.opening.create_files.Goals as goal

pub returns-in-Ok-clause-made : goal.returns-in-Ok-clause-made
returns-in-Ok-clause-made g c =
    if_ok (λ r. shown_by r ≡ view c.in-Ok.store) (λ r. IsClean (shown_by r) → MakesIn (image_of g.D.Disk c.args.files) (shown_by r).committed) c.replay_over.result
    (λ r is. subst (λ (v : View). IsClean v → MakesIn (image_of g.D.Disk c.args.files) v.committed) (sym is) c.in-Ok.ensures.made) c.replay_over.ensures.same

pub returns-in-Ok-clause-cause : goal.returns-in-Ok-clause-cause
returns-in-Ok-clause-cause g c =
    if_err (λ r. r.fault ≡ faults.Memory) (λ r. AreCleanFiles g.D.Disk r.files → HasOpenReason (creation_reasons g.D.Disk c.args.files r.files) r.fault) c.replay_over.result
    (λ r is clean. subst (HasOpenReason (creation_reasons g.D.Disk c.args.files r.files)) (sym is) tt) c.replay_over.ensures.fault
