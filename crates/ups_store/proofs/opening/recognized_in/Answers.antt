use Rattle.std.proofs.Common.{◌≡◌, ◌≤◌, ℕ, inl, inr, ap, sym, subst}
use Rattle.sqlite_disk.specs.Disk.{MoreFaults}
use Rattle.sqlite_wal.specs.Recovery.{Image}
use Rattle.sqlite_wal.specs.Files.{seen_image}
use Rattle.sqlite_store.specs.Unopened.{state_of, image}
use Rattle.ups_store.specs.Found.{used_page, image_of, HoldsTables, HoldsOnly, ListsNothing}
use Rattle.ups_store.specs.Refused.{faults_in, AreCleanFiles, MeetsLimit, HasOpenReason, reasons}
use Rattle.ups_store.proofs.Opened.{if_ok, if_err, faults_back, reason_all}
use Rattle.ups_store.proofs.opening.recognized_in.Goals as goal

pub returns-in-Ok-clause-format : goal.returns-in-Ok-clause-format
returns-in-Ok-clause-format g c =
    let it = c.in-Ok.it in
    let files = c.args.files in
    let same : image it ≡ image_of g.D.Disk files = ap (λ (f : g.row.D.Denot × g.row.D.Denot). seen_image g.D.Disk f.0 f.1) c.in-Ok.ensures.files in
    if_ok (λ k. AreCleanFiles g.D.Disk k.files → HoldsOnly (image it) k.format) (λ k. AreCleanFiles g.D.Disk k.files → HoldsOnly (image_of g.D.Disk files) k.format) c.recognized.result
    (λ k h clean. subst (λ (i : Image). HoldsOnly i k.format) same (h clean)) c.recognized.ensures.format

pub returns-in-Ok-clause-counts : goal.returns-in-Ok-clause-counts
returns-in-Ok-clause-counts g c =
    let it = c.in-Ok.it in
    if_ok (λ k. AreCleanFiles g.D.Disk k.files → (state_of it).faults ≤ faults_in g.D.Disk k.files) (λ k. AreCleanFiles g.D.Disk k.files → faults_in g.D.Disk c.args.files ≤ faults_in g.D.Disk k.files) c.recognized.result
    (λ k h clean. subst (λ (n : ℕ). n ≤ faults_in g.D.Disk k.files) (faults_back it c.args.files (sym c.in-Ok.ensures.files)) (h clean)) c.recognized.ensures.counts

pub returns-in-Ok-clause-cause : goal.returns-in-Ok-clause-cause
returns-in-Ok-clause-cause g c =
    let it = c.in-Ok.it in
    let files = c.args.files in
    let same : image it ≡ image_of g.D.Disk files = ap (λ (f : g.row.D.Denot × g.row.D.Denot). seen_image g.D.Disk f.0 f.1) c.in-Ok.ensures.files in
    if_err (λ r. AreCleanFiles g.D.Disk r.files → HasOpenReason (record { Failed = MoreFaults (state_of it).faults (faults_in g.D.Disk r.files); AtLimit = MeetsLimit g.D.Disk r.files; Refused = ¬ HoldsTables (image it); IsMissing = ListsNothing used_page (image it); LogIsAlone = ⊥; IsThere = ⊥ }) r.fault)
    (λ r. AreCleanFiles g.D.Disk r.files → HasOpenReason (reasons g.D.Disk files r.files) r.fault) c.recognized.result
    (λ r h clean. reason_all (record { Failed = MoreFaults (state_of it).faults (faults_in g.D.Disk r.files); AtLimit = MeetsLimit g.D.Disk r.files; Refused = ¬ HoldsTables (image it); IsMissing = ListsNothing used_page (image it); LogIsAlone = ⊥; IsThere = ⊥ })
    (reasons g.D.Disk files r.files) r.fault
    (λ f. inl (subst (λ (n : ℕ). MoreFaults n (faults_in g.D.Disk r.files)) (faults_back it files (sym c.in-Ok.ensures.files)) f)) (λ l. inl l) (λ no. inr (subst (λ (i : Image). ¬ HoldsTables i) same no))
    (λ m. inr (subst (λ (i : Image). ListsNothing used_page i) same m)) (λ a. absurd a) (λ t. t) (h clean)) c.recognized.ensures.cause
