use Rattle.std.proofs.Common.{◌≡◌, ℕ, IsTrue, inr, ap, sym, subst}
use Rattle.sqlite_disk.specs.Disk.{MoreFaults}
use Rattle.sqlite_wal.specs.Recovery.{Image}
use Rattle.sqlite_wal.specs.Files.{seen_image}
use Rattle.sqlite_store.specs.FileStore.{view}
use Rattle.sqlite_store.specs.Unopened.{state_of, image}
use Rattle.sqlite_trees.specs.View.{IsClean}
use Rattle.ups_store.specs.Found.{used_page, image_of, HasNone, ListsNothing, MakesIn}
use Rattle.ups_store.specs.Refused.{faults_in, AreCleanFiles, MeetsLimit, OpenReasons, HasOpenReason}
use Rattle.ups_store.proofs.Opened.{if_both, if_err, clean_from, faults_back}
use Rattle.ups_store.proofs.opening.completed_in.Goals as goal

pub completed-requires-clause-usable : goal.completed-requires-clause-usable
completed-requires-clause-usable g c = subst (λ (f : g.row.D.Denot × g.row.D.Denot). IsTrue (g.D.Disk.is_usable f.0) × IsTrue (g.D.Disk.is_usable f.1)) (sym c.in-Ok.ensures.files) (c.requires.log, c.requires.db)

pub returns-in-Ok-clause-made : goal.returns-in-Ok-clause-made
returns-in-Ok-clause-made g c =
    let it = c.in-Ok.it in
    let files = c.args.files in
    let same : image it ≡ image_of g.D.Disk files = ap (λ (f : g.row.D.Denot × g.row.D.Denot). seen_image g.D.Disk f.0 f.1) c.in-Ok.ensures.files in
    if_both (λ store. IsClean (view store) → HasNone (view store).committed) (λ store. IsClean (view store) → ListsNothing used_page (image it)) (λ store. IsClean (view store) → MakesIn (image_of g.D.Disk files) (view store).committed) c.completed.result
    (λ store empty nothing clean. (inr (subst (λ (i : Image). ListsNothing used_page i) same (nothing clean)), empty clean)) c.completed.ensures.empty c.completed.ensures.nothing

pub returns-in-Ok-clause-cause : goal.returns-in-Ok-clause-cause
returns-in-Ok-clause-cause g c =
    let it = c.in-Ok.it in
    let same = faults_back it c.args.files (sym c.in-Ok.ensures.files) in
    let reasons = λ (first last : ℕ) (limit : Type 0). let r : OpenReasons = record { Failed = MoreFaults first last; AtLimit = limit; Refused = Unit {0}; IsMissing = ⊥; LogIsAlone = ⊥; IsThere = Unit {0} } in r in
    if_err (λ r. AreCleanFiles g.D.Disk r.files → HasOpenReason (reasons (state_of it).faults (faults_in g.D.Disk r.files) (MeetsLimit g.D.Disk r.files)) r.fault)
    (λ r. AreCleanFiles g.D.Disk r.files → HasOpenReason (reasons (faults_in g.D.Disk c.args.files) (faults_in g.D.Disk r.files) (MeetsLimit g.D.Disk r.files)) r.fault) c.completed.result
    (λ r h clean. subst (λ (n : ℕ). HasOpenReason (reasons n (faults_in g.D.Disk r.files) (MeetsLimit g.D.Disk r.files)) r.fault) same (h clean)) c.completed.ensures.cause

pub returns-in-Ok-clause-falls : goal.returns-in-Ok-clause-falls
returns-in-Ok-clause-falls g c =
    let it = c.in-Ok.it in
    if_err (λ r. AreCleanFiles g.D.Disk r.files → IsTrue (state_of it).is_clean) (λ r. AreCleanFiles g.D.Disk r.files → AreCleanFiles g.D.Disk c.args.files) c.completed.result (λ r h clean. clean_from it c.args.files c.in-Ok.ensures.files (h clean)) c.completed.ensures.falls
