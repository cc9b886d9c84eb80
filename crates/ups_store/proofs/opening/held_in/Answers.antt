use Rattle.std.proofs.Common.{inl, inr}
use Rattle.sqlite_disk.specs.Disk.{MoreFaults}
use Rattle.sqlite_store.specs.FileStore.{view}
use Rattle.sqlite_trees.specs.View.{IsClean}
use Rattle.ups_store.specs.Format.{tables_of}
use Rattle.ups_store.specs.Found.{used_page, image_of, HoldsAs, ReadAs, FindsIn}
use Rattle.ups_store.specs.Refused.{faults_in, AreCleanFiles, MeetsLimit, because, HasOpenReason, reasons}
use Rattle.ups_store.proofs.Opened.{if_both, if_err_both, more_from, read_alike, none_of_format, reason_as}
use Rattle.ups_store.proofs.opening.held_in.Goals as goal

pub returns-in-Ok-clause-found : goal.returns-in-Ok-clause-found
returns-in-Ok-clause-found g c =
    let old = image_of g.D.Disk c.args.files in
    let mid = image_of g.D.Disk c.in-Ok.field-0.files in
    let tables = tables_of c.in-Ok.field-0.format in
    if_both (λ store. IsClean (view store) → ReadAs used_page mid tables (view store).committed) (λ store. IsClean (view store) → AreCleanFiles g.D.Disk c.in-Ok.field-0.files) (λ store. IsClean (view store) → FindsIn old (view store).committed) c.opened.result
    (λ store found honest clean. (c.in-Ok.field-0.format, read_alike used_page old mid tables (view store).committed (c.in-Ok.ensures.alike (honest clean)) (found clean))) c.opened.ensures.found c.opened.ensures.honest

pub returns-in-Ok-clause-cause : goal.returns-in-Ok-clause-cause
returns-in-Ok-clause-cause g c =
    let files = c.args.files in
    let mid = c.in-Ok.field-0.files in
    let format = c.in-Ok.field-0.format in
    if_err_both (λ r. AreCleanFiles g.D.Disk r.files → HasOpenReason (because (MoreFaults (faults_in g.D.Disk mid) (faults_in g.D.Disk r.files)) (MeetsLimit g.D.Disk r.files) (¬ HoldsAs (image_of g.D.Disk mid) format)) r.fault)
    (λ r. AreCleanFiles g.D.Disk r.files → AreCleanFiles g.D.Disk mid) (λ r. AreCleanFiles g.D.Disk r.files → HasOpenReason (reasons g.D.Disk files r.files) r.fault) c.opened.result
    (λ r cause falls clean.
    let was = falls clean in
    reason_as (MoreFaults (faults_in g.D.Disk mid) (faults_in g.D.Disk r.files)) (MeetsLimit g.D.Disk r.files) (¬ HoldsAs (image_of g.D.Disk mid) format) (reasons g.D.Disk files r.files) r.fault
    (λ f. inl (more_from _ _ _ (c.in-Ok.ensures.counts was) f)) (λ l. inl l) (λ no. inr (none_of_format (image_of g.D.Disk files) (image_of g.D.Disk mid) format (c.in-Ok.ensures.alike was) (c.in-Ok.ensures.format was) no)) (cause clean))
    c.opened.ensures.cause c.opened.ensures.falls
