-- The draft between two calls.
use Rattle.std.proofs.Common.{◌≡◌, ◌≢◌, ℕ, ◌-◌, Bool, true, false, if◌then◌else◌, List, [], ◌++◌, ◌+◌, length, map, take, ◌<◌, Option, IsTrue, inl, inr, refl, sym, ap, subst, ◌∙◌, arith}
use Rattle.sqlite_value.specs.Order.{Row}
use Rattle.sqlite_trees.specs.Objects.{catalog_tree}
use Rattle.sqlite_trees.specs.Tree.{Trees}
use Rattle.sqlite_trees.specs.declared.store.Shape.{Shape}
use Rattle.sqlite_trees.specs.declared.store.Shape.TheVariants.{Table}
use Rattle.sqlite_trees.specs.declared.error.StoreError.{StoreError}
use Rattle.sqlite_trees.specs.declared.error.StoreError.TheVariants.{OutOfMemory, Io, Corrupt, Full, Broken, Unstorable}
use Rattle.ups_store.specs.Faults.{Reasons, HasReason, store_fault_of}
use Rattle.sqlite_trees.specs.View.{View, HasCause, IsClean, KeepsSchema, IsRolledBack, Commits}
use Rattle.ups_store.specs.Rows.{table_listed, spare_listed, table_in, spare_in, requests_in_tree, requests_in, drafts_in, request_in, IsNumbered}
use Rattle.ups_store.specs.Held.{Adds, Holds, HoldsIfOpen, HasDraft, HoldsDraft, LeavesOthers}
use Rattle.ups_store.proofs.Tables.{IsLow, low_from, low_not_runs, table_beside, requests_at, numbered_at}
use Rattle.ups_store.specs.Upgrading.{ListsAnew, KeepsLastCommit}
use Rattle.ups_store.proofs.Relisted.{undone, rows_added, there}
use Rattle.std.proofs.lemmas.List.{take-map, length-map}
use Rattle.ups_store.specs.declared.request.StoredRequest.{StoredRequest}
use Rattle.ups_store.specs.Drafting.{Cuts}
use Rattle.ups_store.proofs.Steps.{adding_as, held_committed}

-- the other one of the trees 0 and 2
pub low_other : (t : ℕ) → IsLow t → IsLow (2 - t)
low_other t (inl is) = inr (omega (arith, is))
low_other t (inr is) = inl (omega (arith, is))

pub not_other : (t : ℕ) → IsLow t → t ≢ 2 - t
not_other t (inl is) e = omega (arith, is, e)
not_other t (inr is) e = omega (arith, is, e)

pub other_not_catalog : (t : ℕ) → IsLow t → catalog_tree ≢ 2 - t
other_not_catalog t low e = omega (arith, e)

pub other_not_runs : (t : ℕ) → IsLow t → 1 ≢ 2 - t
other_not_runs t (inl is) e = omega (arith, is, e)
other_not_runs t (inr is) e = omega (arith, is, e)

pub other_back : (t : ℕ) → IsLow t → 2 - (2 - t) ≡ t
other_back t (inl is) = omega (arith, is)
other_back t (inr is) = omega (arith, is)

spare_by : (listed : List Row) → spare_listed listed ≡ 2 - table_listed listed
unfolding table_listed spare_listed
spare_by listed = go _
  where
    go : (b : Bool) → ◌≡◌ {A = ℕ} (if b then 0 else 2) (2 - (if b then 2 else 0))
    go true = refl
    go false = refl

pub spare_at : (db : Trees) (t : ℕ) → table_in db ≡ t → spare_in db ≡ 2 - t
spare_at db t is = spare_by (db catalog_tree) ∙ ap (λ (k : ℕ). 2 - k) is

pub drafts_at : (db : Trees) (t : ℕ) → table_in db ≡ t → drafts_in db ≡ requests_in_tree db (2 - t)
drafts_at db t is = ap (requests_in_tree db) (spare_at db t is)

-- a draft whose rows and shape stay
draft_as : (old new : View) (t n : ℕ) → HasDraft old t n → new.shape (2 - t) ≡ old.shape (2 - t) → new.trees (2 - t) ≡ old.trees (2 - t) → new.is_broken ≡ false → HasDraft new t n
draft_as old new t n h shape rows sound = record {
  shaped = shape ∙ h.shaped;
  adding = record { sound = sound; numbered = subst IsNumbered (sym rows) h.adding.numbered; counted = ap length rows ∙ h.adding.counted };
}

-- a commit of other trees leaves it
pub draft_stays : (old mid new : View) (t n : ℕ) → HasDraft old t n → KeepsSchema old mid → mid.trees (2 - t) ≡ old.trees (2 - t) → Commits mid new → HasDraft new t n
draft_stays old mid new t n has schema rows done =
    draft_as old new t n has (ap (λ (v : View). v.shape (2 - t)) done.is ∙ ap (λ (f : ℕ → Shape). f (2 - t)) schema.shape) (ap (λ (v : View). v.trees (2 - t)) done.is ∙ rows) (ap (λ (v : View). v.is_broken) done.is ∙ done.sound)

-- a step that leaves what the store shows leaves it
pub draft_same : (old new : View) (t : ℕ) (drafted : Option ℕ) → (IsTrue new.is_open → new ≡ old) → HoldsDraft old t drafted → HoldsDraft new t drafted
draft_same old new t drafted same draft =
    λ n is up. subst (λ (v : View). HasDraft v t n) (sym (same up)) (draft n is (subst (λ (v : View). IsTrue v.is_open) (same up) up))

-- a list of tables that is rolled back leaves it
pub draft_unlisted : (old mid new : View) (t count : ℕ) (drafted : Option ℕ) → HoldsIfOpen old t count → HoldsDraft old t drafted → IsClean new → KeepsLastCommit old mid → IsRolledBack mid new → HoldsDraft new t drafted
draft_unlisted old mid new t count drafted held draft clean stands back =
    λ n is up.
    let both = undone old mid new clean stands back up in
    let h = held both.0 in
    let k = back.kept clean in
    let shape : new.shape ≡ old.shape = subst (λ b. new.shape ≡ (if b then mid.committed_shape else mid.shape)) up k.shape ∙ stands.shape ∙ h.has.tables.alike in
    let trees : new.trees ≡ old.trees = (back.undone up).0 ∙ stands.committed (k.was_open up) ∙ sym h.same in
    draft_as old new t n (draft n is both.0) (ap (λ (f : ℕ → Shape). f (2 - t)) shape) (ap (λ (db : Trees). db (2 - t)) trees) (back.undone up).1

-- and so does one that is committed
pub draft_listed : (old mid new : View) (t count n : ℕ) → Holds old t count → HasDraft old t n → ListsAnew old mid → Commits mid new → HasDraft new t n
draft_listed old mid new t count n h has lists done =
    let rows : mid.trees (2 - t) ≡ old.trees (2 - t) = rows_added old mid (2 - t) (low_other t (low_from _ t h.tabled)) has.shaped lists.adds in
    let shape : mid.shape (2 - t) ≡ old.shape (2 - t) = lists.adds.shapes (2 - t) (there (old.shape (2 - t)) has.shaped) in
    draft_as old new t n has (ap (λ (v : View). v.shape (2 - t)) done.is ∙ shape) (ap (λ (v : View). v.trees (2 - t)) done.is ∙ rows) (ap (λ (v : View). v.is_broken) done.is ∙ done.sound)

-- a transaction leaves the requests, and the tree that they are in
pub record StandsBeside (old mid : View) (t : ℕ) : Type 0 where
  pub tabled : table_in mid.trees ≡ t
  pub rows : mid.trees t ≡ old.trees t

pub stands_beside : (old mid : View) (t s : ℕ) → table_in old.trees ≡ t → s ≡ 2 - t → LeavesOthers old mid s → StandsBeside old mid t
stands_beside old mid t s tabled is others =
    let low = low_from _ t tabled in
    record {
      tabled = ap table_listed (others catalog_tree (λ e. other_not_catalog t low (e ∙ is))) ∙ tabled;
      rows = others t (λ e. not_other t low (e ∙ is));
    }

pub stands_run : (old mid : View) (t : ℕ) → table_in old.trees ≡ t → LeavesOthers old mid 1 → StandsBeside old mid t
stands_run old mid t tabled others = record { tabled = table_beside old mid others ∙ tabled; rows = others t (low_not_runs t (low_from _ t tabled)) }

-- the requests are held once it is committed
pub held_stands : (old mid new : View) (t count : ℕ) → IsTrue old.is_open → Holds old t count → KeepsSchema old mid → StandsBeside old mid t → Commits mid new → Holds new t count
held_stands old mid new t count up h schema s done =
    held_committed old mid new t count count (λ _. h) up schema (s.tabled ∙ sym h.tabled) (record { sound = done.sound; numbered = subst IsNumbered (sym s.rows) h.adding.numbered; counted = ap length s.rows ∙ h.adding.counted }) done

pub requests_beside : (old mid new : View) (t count : ℕ) → Holds old t count → StandsBeside old mid t → Commits mid new → requests_in new.committed ≡ requests_in old.committed
requests_beside old mid new t count h stands done =
    ap (λ (v : View). requests_in v.committed) done.is ∙ requests_at mid.trees t stands.tabled ∙ ap (map request_in) stands.rows ∙ sym (requests_at old.trees t h.tabled) ∙ ap requests_in h.same

pub runs_beside : (old mid new : View) (t count : ℕ) → Holds old t count → mid.trees 1 ≡ old.trees 1 → Commits mid new → new.committed 1 ≡ old.committed 1
runs_beside old mid new t count h runs done = ap (λ (v : View). v.committed 1) done.is ∙ runs ∙ ap (λ (db : Trees). db 1) h.same

-- the draft that is committed
pub drafts_beside : (old mid new : View) (t count : ℕ) → Holds old t count → StandsBeside old mid t → Commits mid new → (drafts_in new.committed ≡ requests_in_tree mid.trees (2 - t)) × (requests_in_tree old.trees (2 - t) ≡ drafts_in old.committed)
drafts_beside old mid new t count h stands done =
    (ap (λ (v : View). drafts_in v.committed) done.is ∙ drafts_at mid.trees t stands.tabled, sym (drafts_at old.trees t h.tabled) ∙ ap drafts_in h.same)

-- what it would commit
pub says_beside : (old mid : View) (t count : ℕ) → Holds old t count → StandsBeside old mid t → (requests_in mid.trees ≡ requests_in old.committed) × IsNumbered (mid.trees (table_in mid.trees))
says_beside old mid t count h s = (
  requests_at mid.trees t s.tabled ∙ ap (map request_in) s.rows ∙ sym (requests_at old.trees t h.tabled) ∙ ap requests_in h.same,
  numbered_at mid.trees t s.tabled (subst IsNumbered (sym s.rows) h.adding.numbered),
)

-- the draft once its last requests are deleted
pub drafts_cut : (old mid new : View) (t count most : ℕ) (none : Bool) → Holds old t count → Cuts old mid (2 - t) most none → Commits mid new → drafts_in new.committed ≡ take (length (drafts_in old.committed) - most) (drafts_in old.committed)
drafts_cut old mid new t count most none h cut done =
    let s = 2 - t in
    let both = drafts_beside old mid new t count h (stands_beside old mid t s h.tabled refl cut.others) done in
    let before = requests_in_tree old.trees s in
    let is : requests_in_tree mid.trees s ≡ take (length before - most) before = ap (map request_in) cut.rows ∙ sym (take-map request_in (length (old.trees s) - most) (old.trees s)) ∙ ap (λ (n : ℕ). take (n - most) before) (sym (length-map (old.trees s) request_in)) in
    both.0 ∙ is ∙ ap (λ (rs : List StoredRequest). take (length rs - most) rs) both.1

pub cut_beside : (old mid : View) (t s most : ℕ) (none : Bool) → s ≡ 2 - t → Cuts old mid s most none → Cuts old mid (2 - t) most none
cut_beside old mid t s most none is cut = subst (λ (k : ℕ). Cuts old mid k most none) is cut

pub drafts_counted : (old : View) (t count : ℕ) → Holds old t count → length (drafts_in old.committed) ≡ length (old.trees (2 - t))
drafts_counted old t count h = ap length (sym (ap drafts_in h.same) ∙ drafts_at old.trees t h.tabled) ∙ length-map (old.trees (2 - t)) request_in

pub nothing_left : (most : ℕ) (rs left : List StoredRequest) → length rs < most → left ≡ take (length rs - most) rs → left ≡ []
nothing_left most rs left few is = let none : length rs - most ≡ 0 = omega (arith, few) in is ∙ ap (λ (n : ℕ). take n rs) none

-- an empty draft
pub draft_emptied : (old mid new : View) (t count most : ℕ) → Holds old t count → old.shape (2 - t) ≡ Table → KeepsSchema old mid → Cuts old mid (2 - t) most true → Commits mid new → HasDraft new t 0
draft_emptied old mid new t count most h shaped schema cut done =
    let s = 2 - t in
    let few = cut.few refl in
    let zero : length (old.trees s) - most ≡ 0 = omega arith in
    let none : mid.trees s ≡ [] = cut.rows ∙ ap (λ (n : ℕ). take n (old.trees s)) zero in
    let rows : new.trees s ≡ [] = ap (λ (v : View). v.trees s) done.is ∙ none in
    record {
      shaped = ap (λ (v : View). v.shape s) done.is ∙ ap (λ (f : ℕ → Shape). f s) schema.shape ∙ shaped;
      adding = record { sound = ap (λ (v : View). v.is_broken) done.is ∙ done.sound; numbered = subst IsNumbered (sym rows) refl; counted = ap length rows };
    }

-- the draft once requests are added
pub drafts_added : (old mid new : View) (t count n : ℕ) (more : List StoredRequest) → Holds old t count → StandsBeside old mid t → Adds old mid (2 - t) more n → Commits mid new → drafts_in new.committed ≡ drafts_in old.committed ++ more
drafts_added old mid new t count n more h stands added done =
    let both = drafts_beside old mid new t count h stands done in
    both.0 ∙ added.more ∙ ap (λ (rs : List StoredRequest). rs ++ more) both.1

pub draft_added : (old mid new : View) (t n : ℕ) (more : List StoredRequest) → HasDraft old t n → KeepsSchema old mid → Adds old mid (2 - t) more n → Commits mid new → HasDraft new t (n + length more)
draft_added old mid new t n more has schema added done = record {
  shaped = ap (λ (v : View). v.shape (2 - t)) done.is ∙ ap (λ (f : ℕ → Shape). f (2 - t)) schema.shape ∙ has.shaped;
  adding = adding_as mid new (2 - t) (n + length more) added.adding (ap (λ (v : View). v.is_broken) done.is ∙ done.sound) (ap (λ (v : View). v.trees) done.is);
}

-- the cause of an error as a reason of the fault that tells it
pub reason_in : (old : View) (Fault Large : Type 0) (r : Reasons) (e : StoreError) → (Fault → r.Failed) → (IsTrue old.is_broken → r.WasShut) → (Large → r.IsTooLarge) → HasCause old Fault Large e → HasReason r (store_fault_of e)
reason_in old F L r OutOfMemory f b l h = tt
reason_in old F L r Io f b l h = f h
reason_in old F L r Corrupt f b l h = f h
reason_in old F L r Full f b l h = f h
reason_in old F L r Broken f b l h = b h
reason_in old F L r Unstorable f b l h = l h
