use Rattle.std.proofs.Common.{ℕ, IsTrue, sym, subst}
use Rattle.sqlite_disk.specs.Disk.{MoreFaults}
use Rattle.sqlite_store.specs.FileStore.{view}
use Rattle.sqlite_store.specs.Unopened.{state_of, CanCreate}
use Rattle.sqlite_trees.specs.View.{IsClean}
use Rattle.ups_store.specs.Refused.{faults_in, AreCleanFiles, MeetsLimit, because, HasOpenReason}
use Rattle.ups_store.proofs.Opened.{if_ok, if_err, clean_from, faults_back, reason_as}
use Rattle.ups_store.proofs.opening.made_in.Goals as goal

pub made-requires-clause-usable : goal.made-requires-clause-usable
made-requires-clause-usable g c = subst (λ (f : g.row.D.Denot × g.row.D.Denot). IsTrue (g.D.Disk.is_usable f.0) × IsTrue (g.D.Disk.is_usable f.1)) (sym c.in-Ok.ensures.files) (c.requires.log, c.requires.db)

pub returns-in-Ok-clause-honest : goal.returns-in-Ok-clause-honest
returns-in-Ok-clause-honest g c =
    if_ok (λ store. IsClean (view store) → IsTrue (state_of c.in-Ok.it).is_clean) (λ store. IsClean (view store) → AreCleanFiles g.D.Disk c.args.files) c.made.result (λ store h clean. clean_from c.in-Ok.it c.args.files c.in-Ok.ensures.files (h clean)) c.made.ensures.honest

pub returns-in-Ok-clause-cause : goal.returns-in-Ok-clause-cause
returns-in-Ok-clause-cause g c =
    let it = c.in-Ok.it in
    let same = faults_back it c.args.files (sym c.in-Ok.ensures.files) in
    if_err (λ r. AreCleanFiles g.D.Disk r.files → HasOpenReason (because (MoreFaults (state_of it).faults (faults_in g.D.Disk r.files)) (MeetsLimit g.D.Disk r.files) (¬ CanCreate it)) r.fault)
    (λ r. AreCleanFiles g.D.Disk r.files → HasOpenReason (because (MoreFaults (faults_in g.D.Disk c.args.files) (faults_in g.D.Disk r.files)) (MeetsLimit g.D.Disk r.files) (Unit {0})) r.fault) c.made.result
    (λ r h clean. reason_as (MoreFaults (state_of it).faults (faults_in g.D.Disk r.files)) (MeetsLimit g.D.Disk r.files) (¬ CanCreate it)
    (because (MoreFaults (faults_in g.D.Disk c.args.files) (faults_in g.D.Disk r.files)) (MeetsLimit g.D.Disk r.files) (Unit {0})) r.fault (λ f. subst (λ (n : ℕ). MoreFaults n (faults_in g.D.Disk r.files)) same f) (λ l. l) (λ _. tt) (h clean)) c.made.ensures.cause
