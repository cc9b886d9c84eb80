-- What a call leaves that ends its transaction, whatever it edits.
use Rattle.std.proofs.Common.{◌≡◌, ◌⊎◌, inl, inr, ℕ, ◌-◌, ◌≤◌, Bool, false, List, Result, Ok, Err, IsTrue, IsOk, IfOk, IfErr, OnOk, Option, refl, sym, ap, subst, ◌∙◌, arith, true≢false}
use Rattle.sqlite_disk.specs.Disk.{MoreFaults}
use Rattle.sqlite_trees.specs.declared.error.StoreError.{StoreError}
use Rattle.sqlite_trees.specs.Tree.{Trees}
use Rattle.sqlite_trees.specs.View.{View, doubt, IsClean, KeepsCommitted, KeepsSchema, HasCause, Commits}
use Rattle.ups_store.specs.declared.fault.StoreFault.{StoreFault}
use Rattle.ups_store.specs.declared.request.StoredRequest.{StoredRequest}
use Rattle.ups_store.specs.Drafting.{Cuts}
use Rattle.ups_store.specs.Concluding.{Concludes, ToldBy, KeepsStore}
use Rattle.ups_store.specs.declared.fault.StoreFault.TheVariants.{Memory, Disk, Damaged, Full, Shut, TooLarge, TooMany, NotRequest, Short}
use Rattle.ups_store.specs.Faults.{Reasons, HasReason, HasRunReason, store_fault_of}
use Rattle.ups_store.specs.Held.{HasTables, Holds, HoldsIfOpen, HasDraft, HoldsDraft, LeavesOthers}
use Rattle.ups_store.specs.declared.runs.Run.{Run}
use Rattle.ups_store.specs.Runs.{Enters}
use Rattle.ups_store.specs.Rows.{requests_in, table_in, IsNumbered}
use Rattle.ups_store.specs.Upgrading.{KeepsLastCommit}
use Rattle.ups_store.proofs.Tables.{low_from}
use Rattle.ups_store.proofs.Begun.{run_reason_as}
use Rattle.ups_store.proofs.Cleared.{tables_as, rolled_tables, committed_tables}
use Rattle.ups_store.proofs.Steps.{sound_open, open_clean, clean_before, not_both}
use Rattle.ups_store.proofs.Relisted.{undone, held_unlisted}
use Rattle.ups_store.proofs.Drafted.{StandsBeside, stands_beside, stands_run, other_not_runs, draft_stays, draft_unlisted, held_stands, requests_beside, runs_beside, says_beside, reason_in}

if_given : {T E : Type 0} (P : T → Type 0) (r : Result T E) (x : T) → r ≡ Ok x → IfOk r P → P x
if_given P r x is p = subst (λ k. IfOk k P) is p

pub is_given : {T E : Type 0} {r : Result T E} {x : T} → r ≡ Ok x → IsOk r
is_given is = subst IsOk (sym is) refl

pub on_given : {T E P : Type 0} (r : Result T E) → IsOk r → OnOk r P → P
on_given (Ok x) is p = p
on_given (Err e) is p = absurd (true≢false (sym is))

-- the last requests of a draft were deleted
pub cut_given : {E : Type 0} {old mid : View} {s most : ℕ} (r : Result Bool E) → IsOk r → IfOk r (λ none. IsClean mid → Cuts old mid s most none) → IsClean mid → (none : Bool) × Cuts old mid s most none
cut_given (Ok none) is p clean = (none, p clean)
cut_given (Err e) is p clean = absurd (true≢false (sym is))

pub cut_is : {E : Type 0} {old mid : View} {s most : ℕ} (r : Result Bool E) (none : Bool) → r ≡ Ok none → IfOk r (λ none. IsClean mid → Cuts old mid s most none) → IsClean mid → Cuts old mid s most none
cut_is {old = old} {mid = mid} {s = s} {most = most} r none is p clean = if_given (λ (n : Bool). IsClean mid → Cuts old mid s most n) r none is p clean

-- a run was entered
pub entered : {E : Type 0} {old mid : View} {run : Run} {count : ℕ} (r : Result ℕ E) (number : ℕ) → r ≡ Ok number → IfOk r (λ number. IsClean mid → Enters old mid number run count) → IsClean mid → Enters old mid number run count
entered {old = old} {mid = mid} {run = run} {count = count} r number is p clean = if_given (λ (n : ℕ). IsClean mid → Enters old mid n run count) r number is p clean

pub entered_one : {E : Type 0} {old mid : View} {run : Run} {count : ℕ} (r : Result ℕ E) → IsOk r → IfOk r (λ number. IsClean mid → Enters old mid number run count) → IsClean mid → (number : ℕ) × Enters old mid number run count
entered_one (Ok number) is p clean = (number, p clean)
entered_one (Err e) is p clean = absurd (true≢false (sym is))

-- a transaction that wrote rows alone leaves the last commit, and the tables
pub last_kept : {old mid : View} → KeepsCommitted old mid → KeepsLastCommit old mid
last_kept k = record { shape = k.committed_shape; reals = k.committed_reals; numbered = k.numbered; was_open = k.was_open; committed = k.committed }

pub schema_kept : {old mid : View} → KeepsCommitted old mid → KeepsSchema old mid
schema_kept k = record { shape = k.shape; reals = k.reals; committed_shape = k.committed_shape; committed_reals = k.committed_reals; numbered = k.numbered }

-- the store was open before a transaction that is sound
pub begun_open : {T E F : Type 0} {e : Result T E} {r : Result T F} {old mid new : View} → (IsClean mid → KeepsLastCommit old mid) → Concludes mid new e r → mid.is_broken ≡ false → IsTrue old.is_open
begun_open {mid = mid} stands ends sound = let up = sound_open mid ends.broken sound in (stands (open_clean mid ends.closed up)).was_open up

pub keeps_store : {T E F : Type 0} {e : Result T E} {old mid new : View} (r : Result T F) → (IsClean mid → KeepsLastCommit old mid) → doubt old.is_clean ≤ doubt mid.is_clean → Concludes mid new e r → KeepsStore old new r
keeps_store {mid = mid} {new = new} (Ok x) stands begun ends = record {
  is_open = λ clean. let d = ends.done clean in ap (λ (v : View). v.is_open) d.is ∙ sound_open mid ends.broken d.sound;
  was_open = λ up. begun_open stands ends (ends.done (open_clean new ends.shut up)).sound;
  unchanged = tt;
  clean = omega (arith, begun, ends.clean);
}
keeps_store {old = old} {mid = mid} {new = new} (Err f) stands begun ends =
    let left = λ (up : IsTrue new.is_open). let clean = open_clean new ends.shut up in undone old mid new clean (stands (clean_before mid new ends.clean clean)) ends.undone up in
    record { is_open = tt; was_open = λ up. (left up).0; unchanged = λ up. (left up).1; clean = omega (arith, begun, ends.clean) }

-- the store after a transaction that was rolled back
pub record IsLeft (new : View) (table count : ℕ) (drafted : Option ℕ) : Type 0 where
  pub held : HoldsIfOpen new table count
  pub draft : HoldsDraft new table drafted

pub is_left : {T E F : Type 0} {e : Result T E} {f : F} (old mid new : View) (t count : ℕ) (drafted : Option ℕ) → HoldsIfOpen old t count → HoldsDraft old t drafted → (IsClean mid → KeepsLastCommit old mid) → Concludes mid new e (Err f) → IsLeft new t count drafted
is_left old mid new t count drafted held draft stands ends =
    let clean = λ (up : IsTrue new.is_open). open_clean new ends.shut up in
    let last = λ (up : IsTrue new.is_open). stands (clean_before mid new ends.clean (clean up)) in
    record {
      held = λ up. held_unlisted old mid new t count held (clean up) (last up) ends.undone up;
      draft = λ n is up. draft_unlisted old mid new t count drafted held draft (clean up) (last up) ends.undone n is up;
    }

-- the store before one that was committed, and what was committed
pub record IsDone (old mid new : View) (table count : ℕ) : Type 0 where
  pub up : IsTrue old.is_open
  pub was : Holds old table count
  pub clean : IsClean mid
  pub commits : Commits mid new

pub is_done : {T E F : Type 0} {e : Result T E} {x : T} {old mid new : View} {t count : ℕ} → HoldsIfOpen old t count → (IsClean mid → KeepsLastCommit old mid) → Concludes {F = F} mid new e (Ok x) → IsClean new → IsDone old mid new t count
is_done {mid = mid} {new = new} held stands ends clean =
    let d = ends.done clean in
    let up = begun_open stands ends d.sound in
    record { up = up; was = held up; clean = clean_before mid new ends.clean clean; commits = d }

-- the store whichever way it ended
pub is_kept : {T E F : Type 0} {e : Result T E} (r : Result T F) (old mid new : View) (t count : ℕ) (drafted : Option ℕ) → HoldsIfOpen old t count → HoldsDraft old t drafted → (IsClean mid → KeepsLastCommit old mid) → Concludes mid new e r
    → (IsOk e → IsDone old mid new t count → Holds new t count) → (IsOk e → IsDone old mid new t count → (n : ℕ) → HasDraft old t n → HasDraft new t n) → IsLeft new t count drafted
is_kept (Ok x) old mid new t count drafted held draft stands ends holds has =
    let ok = is_given ends.given in
    let done = λ (up : IsTrue new.is_open). is_done held stands ends (open_clean new ends.shut up) in
    record { held = λ up. holds ok (done up); draft = λ n is up. has ok (done up) n (draft n is (done up).up) }
is_kept (Err f) old mid new t count drafted held draft stands ends holds has = is_left old mid new t count drafted held draft stands ends

-- what is said of one that succeeded
pub once_done : {T E F P : Type 0} {e : Result T E} {old mid new : View} {t count : ℕ} (r : Result T F) → HoldsIfOpen old t count → (IsClean mid → KeepsLastCommit old mid) → Concludes mid new e r → (IsOk e → IsDone old mid new t count → P) → OnOk r (IsClean new → P)
once_done (Ok x) held stands ends says = λ clean. says (is_given ends.given) (is_done held stands ends clean)
once_done (Err f) held stands ends says = tt

pub once_given : {T E F : Type 0} {e : Result T E} {old mid new : View} {t count : ℕ} (P : T → Type 0) (r : Result T F) → HoldsIfOpen old t count → (IsClean mid → KeepsLastCommit old mid) → Concludes mid new e r → ((x : T) → e ≡ Ok x → IsDone old mid new t count → P x) → IfOk r (λ x. IsClean new → P x)
once_given P (Ok x) held stands ends says = λ clean. says x ends.given (is_done held stands ends clean)
once_given P (Err f) held stands ends says = tt

-- the tables stay where no list of tables was written
pub tables_kept : {T E F : Type 0} {e : Result T E} {old mid new : View} {t count : ℕ} (r : Result T F) → HoldsIfOpen old t count → KeepsCommitted old mid → Concludes mid new e r → IsTrue old.is_open → IsClean new → HasTables new
tables_kept {old = old} {mid = mid} {new = new} (Ok x) held kept ends up clean = committed_tables mid new (ends.done clean) (tables_as old mid (schema_kept kept) (held up).has.tables)
tables_kept {old = old} {mid = mid} {new = new} (Err f) held kept ends up clean = rolled_tables mid new ends.undone (tables_as old mid (schema_kept kept) (held up).has.tables)

-- one that writes the other tree of requests alone
pub record IsDoneBeside (old mid new : View) (table count : ℕ) : Type 0 where
  pub is : IsDone old mid new table count
  pub stands : StandsBeside old mid table
  pub held : Holds new table count
  pub requests : requests_in new.committed ≡ requests_in old.committed
  pub runs : new.committed 1 ≡ old.committed 1

pub done_beside : {T E F : Type 0} {e : Result T E} {x : T} {old mid new : View} {t s count : ℕ} → HoldsIfOpen old t count → KeepsCommitted old mid → s ≡ 2 - t → (IsOk e → IsClean mid → LeavesOthers old mid s) → Concludes {F = F} mid new e (Ok x) → IsClean new → IsDoneBeside old mid new t count
done_beside {old = old} {mid = mid} {new = new} {t = t} {s = s} {count = count} held kept spare others ends clean =
    let d = is_done held (λ (_ : IsClean mid). last_kept kept) ends clean in
    let stands = stands_beside old mid t s d.was.tabled spare (others (is_given ends.given) d.clean) in
    record {
      is = d;
      stands = stands;
      held = held_stands old mid new t count d.up d.was (schema_kept kept) stands d.commits;
      requests = requests_beside old mid new t count d.was stands d.commits;
      runs = runs_beside old mid new t count d.was (others (is_given ends.given) d.clean 1 (λ e. other_not_runs t (low_from _ t d.was.tabled) (e ∙ spare))) d.commits;
    }

-- the store once it has ended, where it writes the runs alone
pub is_kept_run : {T E F : Type 0} {e : Result T E} (r : Result T F) (old mid new : View) (t count : ℕ) (drafted : Option ℕ) → HoldsIfOpen old t count → HoldsDraft old t drafted → KeepsCommitted old mid → (IsOk e → IsClean mid → LeavesOthers old mid 1) → Concludes mid new e r → IsLeft new t count drafted
is_kept_run r old mid new t count drafted held draft kept others ends =
    is_kept r old mid new t count drafted held draft (λ _. last_kept kept) ends (λ ok d. held_stands old mid new t count d.up d.was (schema_kept kept) (stands_run old mid t d.was.tabled (others ok d.clean)) d.commits)
    (λ ok d n has. draft_stays old mid new t n has (schema_kept kept) (others ok d.clean (2 - t) (λ e. other_not_runs t (low_from _ t d.was.tabled) (sym e))) d.commits)

-- each outcome of a crash, where this is said of what a transaction that is sound would commit
pub crash_where : {T E F : Type 0} {e : Result T E} {r : Result T F} {Before Between : Trees → Type 0} {old mid new : View} {t count : ℕ} (Said : Trees → Type 0) → HoldsIfOpen old t count → (IsClean mid → KeepsLastCommit old mid) → Concludes mid new e r
    → (IsOk e → IsClean mid → IsTrue old.is_open → Holds old t count → Said mid.trees) → ((db : Trees) → Between db → Before db)
    → (db : Trees) → ((IsOk e × (mid.is_broken ≡ false) × (db ≡ mid.trees)) ⊎ Between db) → Before db ⊎ (IsTrue old.is_open × Said db)
crash_where {mid = mid} Said held stands ends says quiet db (inl is) =
    let up = begun_open stands ends is.1 in
    inr (up, subst Said (sym is.2) (says is.0 (open_clean mid ends.closed (sound_open mid ends.broken is.1)) up (held up)))
crash_where Said held stands ends says quiet db (inr between) = inl (quiet db between)

-- the same, where it would have these requests
pub crash_of : {T E F : Type 0} {e : Result T E} {r : Result T F} {Before Between : Trees → Type 0} {old mid new : View} {t count : ℕ} (all : List StoredRequest) → HoldsIfOpen old t count → (IsClean mid → KeepsLastCommit old mid) → Concludes mid new e r
    → (IsOk e → IsClean mid → IsTrue old.is_open → Holds old t count → (requests_in mid.trees ≡ all) × IsNumbered (mid.trees (table_in mid.trees))) → ((db : Trees) → Between db → Before db)
    → (db : Trees) → ((IsOk e × (mid.is_broken ≡ false) × (db ≡ mid.trees)) ⊎ Between db) → Before db ⊎ (IsTrue old.is_open × (requests_in db ≡ all) × IsNumbered (db (table_in db)))
crash_of all held stands ends says quiet db after =
    elim (crash_where (λ (d : Trees). (requests_in d ≡ all) × IsNumbered (d (table_in d))) held stands ends says quiet db after) [
      | inl before ↦ inl before
      | inr said ↦ inr (said.0, said.1.0, said.1.1)
    ]

pub crash_beside : {T E F : Type 0} {e : Result T E} {r : Result T F} {Before Between : Trees → Type 0} {old mid new : View} {t s count : ℕ} → HoldsIfOpen old t count → KeepsCommitted old mid → s ≡ 2 - t → (IsOk e → IsClean mid → LeavesOthers old mid s) → Concludes mid new e r → ((db : Trees) → Between db → Before db)
    → (db : Trees) → ((IsOk e × (mid.is_broken ≡ false) × (db ≡ mid.trees)) ⊎ Between db) → Before db ⊎ (IsTrue old.is_open × (requests_in db ≡ requests_in old.committed) × IsNumbered (db (table_in db)))
crash_beside {old = old} {mid = mid} {t = t} {s = s} {count = count} held kept spare others ends quiet db after =
    crash_of (requests_in old.committed) held (λ (_ : IsClean mid). last_kept kept) ends (λ ok clean _ h. says_beside old mid t count h (stands_beside old mid t s h.tabled spare (others ok clean))) quiet db after

pub crash_run : {T E F : Type 0} {e : Result T E} {r : Result T F} {Before Between : Trees → Type 0} {old mid new : View} {t count : ℕ} → HoldsIfOpen old t count → KeepsCommitted old mid → (IsOk e → IsClean mid → LeavesOthers old mid 1) → Concludes mid new e r → ((db : Trees) → Between db → Before db)
    → (db : Trees) → ((IsOk e × (mid.is_broken ≡ false) × (db ≡ mid.trees)) ⊎ Between db) → Before db ⊎ (IsTrue old.is_open × (requests_in db ≡ requests_in old.committed) × IsNumbered (db (table_in db)))
crash_run {old = old} {mid = mid} {t = t} {count = count} held kept others ends quiet db after =
    crash_of (requests_in old.committed) held (λ (_ : IsClean mid). last_kept kept) ends (λ ok clean _ h. says_beside old mid t count h (stands_run old mid t h.tabled (others ok clean))) quiet db after

-- why it fails, where the transaction of an edit that succeeds is sound
pub cause_of : {T : Type 0} {first then last : ℕ} {Large : Type 0} (e : Result T StoreError) (f : StoreFault) (old mid : View) (why : Reasons) → first ≤ then → then ≤ last → (MoreFaults first last → why.Failed) → (IsTrue old.is_broken → why.WasShut) → (Large → why.IsTooLarge) → (IsOk e → mid.is_broken ≡ false)
    → IfErr e (HasCause old (MoreFaults first then) Large) → ToldBy (λ (x : StoreError) (y : StoreFault). y ≡ store_fault_of x) mid e (MoreFaults then last) f → HasReason why f
cause_of {first = first} {then = then} {Large = Large} e f old mid why a b failed shut large sound cause (inl by) =
    subst (HasReason why) (sym by.2) (reason_in old (MoreFaults first then) Large why by.0 (λ m. failed (omega (arith, m, b))) shut large (subst (λ k. IfErr k (HasCause old (MoreFaults first then) Large)) by.1 cause))
cause_of {then = then} {last = last} e f old mid why a b failed shut large sound cause (inr by) =
    subst (HasReason why) (sym by.2) (reason_in mid (MoreFaults then last) ⊥ why by.1 (λ m. failed (omega (arith, m, a))) (λ broken. absurd (not_both mid.is_broken (sound by.0) broken)) (λ n. absurd n) by.3)

-- the same of a result
pub cause_told : {T : Type 0} {first then last : ℕ} {Large : Type 0} (e : Result T StoreError) (r : Result T StoreFault) (old mid : View) (why : Reasons) → first ≤ then → then ≤ last → (MoreFaults first last → why.Failed) → (IsTrue old.is_broken → why.WasShut) → (Large → why.IsTooLarge) → (IsOk e → mid.is_broken ≡ false)
    → IfErr e (HasCause old (MoreFaults first then) Large) → IfErr r (ToldBy (λ (x : StoreError) (y : StoreFault). y ≡ store_fault_of x) mid e (MoreFaults then last)) → IfErr r (HasReason why)
cause_told e (Ok x) old mid why a b failed shut large sound cause told = tt
cause_told e (Err f) old mid why a b failed shut large sound cause told = cause_of e f old mid why a b failed shut large sound cause told

-- any reason is one of a run
run_reason : (why : Reasons) (Lost : Type 0) (f : StoreFault) → HasReason why f → HasRunReason why Lost f
run_reason why Lost Memory h = tt
run_reason why Lost Disk h = h
run_reason why Lost Damaged h = h
run_reason why Lost Full h = h
run_reason why Lost Shut h = h
run_reason why Lost TooLarge h = h
run_reason why Lost TooMany h = h
run_reason why Lost NotRequest h = h
run_reason why Lost Short h = absurd h

-- why no run is begun, where the edit says why it fails
pub run_told : {T : Type 0} (then last : ℕ) (e r : Result T StoreFault) (mid : View) (some all : Reasons) (Lost All : Type 0) → (some.Failed → all.Failed) → (some.WasShut → all.WasShut) → (some.IsTooLarge → all.IsTooLarge) → (some.AreTooMany → all.AreTooMany) → (some.IsNotRequest → all.IsNotRequest) → (Lost → All)
    → (MoreFaults then last → all.Failed) → (IsOk e → mid.is_broken ≡ false) → IfErr e (HasRunReason some Lost) → IfErr r (ToldBy (λ (x : StoreFault) (y : StoreFault). y ≡ x) mid e (MoreFaults then last)) → IfErr r (HasRunReason all All)
run_told then last e (Ok x) mid some all Lost All f w l m n a failed sound cause told = tt
run_told then last e (Err fault) mid some all Lost All f w l m n a failed sound cause (inl by) =
    subst (HasRunReason all All) (sym by.2) (run_reason_as some all Lost All by.0 f w l m n a (subst (λ k. IfErr k (HasRunReason some Lost)) by.1 cause))
run_told then last e (Err fault) mid some all Lost All f w l m n a failed sound cause (inr by) =
    subst (HasRunReason all All) (sym by.2) (run_reason all All _ (reason_in mid (MoreFaults then last) ⊥ all by.1 failed (λ broken. absurd (not_both mid.is_broken (sound by.0) broken)) (λ n. absurd n) by.3))
