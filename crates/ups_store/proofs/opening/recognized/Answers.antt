use Rattle.std.proofs.Common.{◌≤◌, ℕ, Option, IfSome, inl, ap, sym, subst}
use Rattle.sqlite_disk.specs.Disk.{MoreFaults}
use Rattle.sqlite_wal.specs.Files.{seen_image}
use Rattle.sqlite_store.specs.Unopened.{state_of, image, HasSomeFile, IsFullFile}
use Rattle.ups_store.specs.declared.format.Format.{Format}
use Rattle.ups_store.specs.Found.{used_page, HoldsTables, HoldsOnly, ListsNothing, StandAlike}
use Rattle.ups_store.specs.Refused.{faults_in, MeetsLimit}
use Rattle.ups_store.proofs.Opened.{no_some_file, clean_back, faults_back, reason_as}
use Rattle.ups_store.proofs.opening.recognized.Goals as goal

pub returns-in-Ok-None-clause-cause : goal.returns-in-Ok-None-clause-cause
returns-in-Ok-None-clause-cause g c clean =
    let then = c.format_of.new.files in
    c.in-Ok-None.ensures.nothing (clean_back then c.close.result c.close.ensures clean) c.in-Ok-None.field-0-is

pub returns-in-Ok-Some-clause-alike : goal.returns-in-Ok-Some-clause-alike
returns-in-Ok-Some-clause-alike g c clean =
    let it = c.args.files in
    let then = c.format_of.new.files in
    let files = c.close-in-Ok-Some.result in
    subst (StandAlike used_page (image it)) (ap (λ (f : g.row.D.Denot × g.row.D.Denot). seen_image g.D.Disk f.0 f.1) (sym c.close-in-Ok-Some.ensures)) (c.in-Ok-Some.ensures.alike (clean_back then files c.close-in-Ok-Some.ensures clean))

pub returns-in-Ok-Some-clause-format : goal.returns-in-Ok-Some-clause-format
returns-in-Ok-Some-clause-format g c clean =
    subst (λ (found : Option Format). IfSome found (HoldsOnly (image c.args.files))) c.in-Ok-Some.field-0-is (c.in-Ok-Some.ensures.format (clean_back c.format_of.new.files c.close-in-Ok-Some.result c.close-in-Ok-Some.ensures clean))

pub returns-in-Ok-Some-clause-counts : goal.returns-in-Ok-Some-clause-counts
returns-in-Ok-Some-clause-counts g c clean =
    let then = c.format_of.new.files in
    let files = c.close-in-Ok-Some.result in
    subst (λ (n : ℕ). (state_of c.args.files).faults ≤ n) (faults_back then files c.close-in-Ok-Some.ensures) (c.format_of.ensures.falls (clean_back then files c.close-in-Ok-Some.ensures clean)).1

pub returns-in-Err-clause-cause : goal.returns-in-Err-clause-cause
returns-in-Err-clause-cause g c clean =
    let it = c.args.files in
    let then = c.format_of.new.files in
    let files = c.close-in-Err.result in
    reason_as (MoreFaults (state_of it).faults (state_of then).faults) (IsFullFile then) (¬ HasSomeFile it)
    (record { Failed = MoreFaults (state_of it).faults (faults_in g.D.Disk files); AtLimit = MeetsLimit g.D.Disk files; Refused = ¬ HoldsTables (image it); IsMissing = ListsNothing used_page (image it); LogIsAlone = ⊥; IsThere = ⊥ }) c.in-Err.fault
    (λ f. subst (MoreFaults (state_of it).faults) (faults_back then files c.close-in-Err.ensures) f) (λ l. (then, sym c.close-in-Err.ensures, inl l)) (λ no. no_some_file it c.requires.size no)
    (c.in-Err.ensures.cause (clean_back then files c.close-in-Err.ensures clean))
