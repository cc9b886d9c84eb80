use Rattle.std.proofs.Common.{◌≡◌, ℕ, List, true, IsTrue, ap, sym, subst}
use Rattle.sqlite_disk.specs.Disk.{MoreFaults}
use Rattle.sqlite_wal.specs.Recovery.{Image}
use Rattle.sqlite_wal.specs.Files.{seen_image}
use Rattle.sqlite_store.specs.declared.catalog.Wanted.{Wanted}
use Rattle.sqlite_store.specs.FileStore.{view}
use Rattle.sqlite_store.specs.Unopened.{state_of, wanted_by, image, HasFileAs}
use Rattle.sqlite_trees.specs.View.{IsClean}
use Rattle.ups_store.specs.Format.{tables_of}
use Rattle.ups_store.specs.Found.{used_page, image_of, HoldsAs, ReadAs}
use Rattle.ups_store.specs.Refused.{faults_in, AreCleanFiles, MeetsLimit, because, HasOpenReason}
use Rattle.ups_store.proofs.Opened.{if_ok, if_err, no_file, clean_from, faults_back, reason_as}
use Rattle.ups_store.proofs.opening.opened.Goals as goal

pub returns-in-Ok-clause-found : goal.returns-in-Ok-clause-found
returns-in-Ok-clause-found g c =
    let it = c.in-Ok.it in
    let files = c.args.files in
    let same : image it ≡ image_of g.D.Disk files = ap (λ (f : g.row.D.Denot × g.row.D.Denot). seen_image g.D.Disk f.0 f.1) c.in-Ok.ensures.files in
    if_ok (λ store. IsClean (view store) → ReadAs (state_of it).page_size (image it) (wanted_by it) (view store).committed)
    (λ store. IsClean (view store) → ReadAs used_page (image_of g.D.Disk files) (tables_of c.args.format) (view store).committed) c.attached.result
    (λ store h clean.
    subst (λ (n : ℕ). ReadAs n (image_of g.D.Disk files) (tables_of c.args.format) (view store).committed) c.in-Ok.ensures.size
    (subst (λ (i : Image). ReadAs (state_of it).page_size i (tables_of c.args.format) (view store).committed) same (subst (λ (s : List Wanted). ReadAs (state_of it).page_size (image it) s (view store).committed) c.in-Ok.ensures.table (h clean))))
    c.attached.ensures.found

pub returns-in-Ok-clause-honest : goal.returns-in-Ok-clause-honest
returns-in-Ok-clause-honest g c =
    let it = c.in-Ok.it in
    if_ok (λ store. IsClean (view store) → IsTrue (state_of it).is_clean) (λ store. IsClean (view store) → AreCleanFiles g.D.Disk c.args.files) c.attached.result (λ store h clean. clean_from it c.args.files c.in-Ok.ensures.files (h clean)) c.attached.ensures.honest

pub returns-in-Ok-clause-cause : goal.returns-in-Ok-clause-cause
returns-in-Ok-clause-cause g c =
    let it = c.in-Ok.it in
    let files = c.args.files in
    let same : image it ≡ image_of g.D.Disk files = ap (λ (f : g.row.D.Denot × g.row.D.Denot). seen_image g.D.Disk f.0 f.1) c.in-Ok.ensures.files in
    if_err (λ r. AreCleanFiles g.D.Disk r.files → HasOpenReason (because (MoreFaults (state_of it).faults (faults_in g.D.Disk r.files)) (MeetsLimit g.D.Disk r.files) (¬ HasFileAs it true)) r.fault)
    (λ r. AreCleanFiles g.D.Disk r.files → HasOpenReason (because (MoreFaults (faults_in g.D.Disk files) (faults_in g.D.Disk r.files)) (MeetsLimit g.D.Disk r.files) (¬ HoldsAs (image_of g.D.Disk files) c.args.format)) r.fault) c.attached.result
    (λ r h clean.
    reason_as (MoreFaults (state_of it).faults (faults_in g.D.Disk r.files)) (MeetsLimit g.D.Disk r.files) (¬ HasFileAs it true)
    (because (MoreFaults (faults_in g.D.Disk files) (faults_in g.D.Disk r.files)) (MeetsLimit g.D.Disk r.files) (¬ HoldsAs (image_of g.D.Disk files) c.args.format)) r.fault
    (λ f. subst (λ (n : ℕ). MoreFaults n (faults_in g.D.Disk r.files)) (faults_back it files (sym c.in-Ok.ensures.files)) f) (λ l. l)
    (λ no. no_file it c.args.format (image_of g.D.Disk files) same c.in-Ok.ensures.size c.in-Ok.ensures.table no) (h clean))
    c.attached.ensures.cause

pub returns-in-Ok-clause-falls : goal.returns-in-Ok-clause-falls
returns-in-Ok-clause-falls g c =
    let it = c.in-Ok.it in
    if_err (λ r. AreCleanFiles g.D.Disk r.files → IsTrue (state_of it).is_clean) (λ r. AreCleanFiles g.D.Disk r.files → AreCleanFiles g.D.Disk c.args.files) c.attached.result (λ r h clean. clean_from it c.args.files c.in-Ok.ensures.files (h clean)) c.attached.ensures.falls
