-- What a store shows that was just opened or made.
use Rattle.std.proofs.Common.{◌≡◌, ◌≢◌, ◌⊎◌, ℕ, ◌+◌, inl, inr, Bool, true, false, ◌&&◌, List, [], ◌∷◌, map, pos, Equal, slice_index, refl, sym, ap, subst, ◌∙◌, Option, Result, Ok, Err, IfOk, IfErr, IsTrue, true≢false, arith, ◌≤◌}
use Rattle.sqlite_wal.specs.Reads.{are_clean, AreClean, OnlyReads}
use Rattle.sqlite_wal.specs.Recovery.{Image}
use Rattle.sqlite_wal.specs.Files.{seen_image}
use Rattle.sqlite_pool.specs.declared.pool.Pool.{Pool}
use Rattle.sqlite_pool.specs.Pool as below
use Rattle.sqlite_pool.specs.Pool.{files}
use Rattle.sqlite_store.specs.declared.store.open.Unopened.{Unopened}
use Rattle.sqlite_store.specs.Unopened.{state_of, files_of, wanted_by, image, HasFileAs, HasSomeFile, IsFullFile, StopsCreating}
use Rattle.sqlite_store.specs.Db.{rows_at, roots_of, IsKept, IsFile}
use Rattle.sqlite_store.specs.Catalog.{root_in, roots_in}
use Rattle.sqlite_btree.specs.Chain.{Layout}
use Rattle.sqlite_btree.specs.Stored.{Owns}
use Rattle.sqlite_btree.proofs.StoredLemmas.{stored_root_live}
use Rattle.sqlite_pages.specs.PageMap.{PageMap}
use Rattle.sqlite_wal.proofs.RecoveryLemmas.{recovers_once}
use Rattle.sqlite_pool.specs.File.{in_use}
use Rattle.sqlite_pool.specs.Stored.{Recovers, stored_size, trimmed}
use Rattle.sqlite_value.specs.Order.{Row}
use Rattle.sqlite_trees.specs.Tree.{Trees}
use Rattle.sqlite_disk.specs.declared.Disk.{Ghosts}
use Rattle.sqlite_trees.specs.declared.store.Shape.TheVariants.{Table}
use Rattle.sqlite_trees.specs.View.{IsClean}
use Rattle.sqlite_trees.proofs.Doubt.{clean_of}
use Rattle.sqlite_store.specs.declared.store.FileStore.{FileStore}
use Rattle.sqlite_store.specs.declared.catalog.Wanted.{Wanted}
use Rattle.sqlite_store.specs.declared.saved.Saved.{Saved}
use Rattle.sqlite_store.specs.Catalog.{shape_at}
use Rattle.sqlite_store.specs.Saved.{kept_schema}
use Rattle.sqlite_store.specs.Listing.{all_shapes, all_reals, all_trees, listed_from, file_trees, IsOurs}
use Rattle.sqlite_store.specs.Exact.{entries_of}
use Rattle.ups_store.specs.declared.format.Format.{Format}
use Rattle.ups_store.specs.declared.format.Format.TheVariants.{First, Second, Third, Exchanged}
use Rattle.ups_store.specs.Format.{sql_of, tables_of, last_tables, format_in, IsSchema}
use Rattle.ups_store.specs.Rows.{table_listed, table_in}
use Rattle.sqlite_value.proofs.OrderLemmas.{value_cmp-Int}
use Rattle.sqlite_value.specs.Order.{value_cmp}
use Rattle.sqlite_value.specs.declared.value.Value.TheVariants.{Int}
use Rattle.sqlite_trees.specs.Objects.{catalog_tree}
use Rattle.sqlite_store.specs.FileStore.{view, state, schema_of, IsReady}
use Rattle.sqlite_disk.specs.declared.Files.{Files}
use Rattle.sqlite_disk.specs.Disk.{MoreFaults}
use Rattle.sqlite_store.specs.Opening.{FailsToOpen}
use Rattle.sqlite_store.specs.declared.error.OpenError.{OpenError}
use Rattle.sqlite_store.specs.declared.error.OpenError.TheVariants as kit
use Rattle.sqlite_trees.specs.declared.error.StoreError.{StoreError}
use Rattle.sqlite_trees.specs.declared.error.StoreError.TheVariants as names
use Rattle.ups_store.specs.declared.fault.OpenFault.{OpenFault}
use Rattle.ups_store.specs.declared.fault.OpenFault.TheVariants as faults
use Rattle.ups_store.specs.Held.{IsFresh}
use Rattle.sqlite_wal.specs.declared.error.Error.{Error}
use Rattle.sqlite_wal.specs.declared.error.Error.TheVariants as log
use Rattle.sqlite_wal.specs.Outcome.{HasCause}
use Rattle.sqlite_wal.specs.Opening.{RefusesLog}
use Rattle.sqlite_wal.specs.Files.{IsHuge}
use Rattle.sqlite_wal.specs.Recovery.{IsLogFor}
use Rattle.sqlite_pool.specs.Opening.{IsBlankFile}
use Rattle.ups_store.specs.Found.{whole_page, used_page, image_of, HoldsAs, HoldsTables, HoldsOnly, HoldsNone, IsUnused, StandAlike, ReadAs}
use Rattle.ups_store.specs.Refused.{faults_in, AreCleanFiles, MeetsLimit, IsLongLog, HasLog, OpenReasons, because, HasOpenReason, reasons, fault_of_opening, refuses_log, IsKind}

shape_first : (schema : List Wanted) → shape_at schema 0 ≡ Table → all_shapes schema 0 ≡ Table
unfolding all_shapes
shape_first schema h = h

shape_second : (schema : List Wanted) → shape_at schema 1 ≡ Table → all_shapes schema 1 ≡ Table
unfolding all_shapes
shape_second schema h = h

-- the tree of the requests in a format
abbrev table_number : Format → ℕ
table_number First = 0
table_number Second = 0
table_number Third = 0
table_number Exchanged = 2

shaped_at : (format : Format) → all_shapes (tables_of format) (table_number format) ≡ Table
unfolding all_shapes
shaped_at First = refl
shaped_at Second = refl
shaped_at Third = refl
shaped_at Exchanged = refl

table_found : (format : Format) → table_listed (listed_from 0 (tables_of format)) ≡ table_number format
unfolding table_listed
table_found format = go format (value_cmp-Int (pos 1) (pos 1))
  where
    go : (format : Format) → value_cmp (Int (pos 1)) (Int (pos 1)) ≡ Equal → table_listed (listed_from 0 (tables_of format)) ≡ table_number format
    go First itself = rw itself refl
    go Second itself = rw itself refl
    go Third itself = rw itself refl
    go Exchanged itself = rw itself refl

listed_trees : (size : ℕ) (schema : List Wanted) (pages : PageMap) → file_trees size schema pages catalog_tree ≡ listed_from 0 schema
unfolding all_trees
listed_trees size schema pages = refl

unreal_second : (format : Format) → all_reals (tables_of format) 1 ≡ 0
unfolding all_reals
unreal_second format = refl

unreal_first : (format : Format) → all_reals (tables_of format) 0 ≡ 0
unfolding all_reals
unreal_first format = refl

unreal_third : (format : Format) → all_reals (tables_of format) 2 ≡ 0
unfolding all_reals
unreal_third First = refl
unreal_third Second = refl
unreal_third Third = refl
unreal_third Exchanged = refl

pub if_ok : {T E : Type 0} (P Q : T → Type 0) (r : Result T E) → ((x : T) → P x → Q x) → IfOk r P → IfOk r Q
if_ok P Q (Ok x) f h = f x h
if_ok P Q (Err e) f h = tt

pub if_both : {T E : Type 0} (P Q R : T → Type 0) (r : Result T E) → ((x : T) → P x → Q x → R x) → IfOk r P → IfOk r Q → IfOk r R
if_both P Q R (Ok x) f h k = f x h k
if_both P Q R (Err e) f h k = tt

pub if_err : {T E : Type 0} (P Q : E → Type 0) (r : Result T E) → ((x : E) → P x → Q x) → IfErr r P → IfErr r Q
if_err P Q (Ok x) f h = tt
if_err P Q (Err e) f h = f e h

pub if_err_both : {T E : Type 0} (P Q R : E → Type 0) (r : Result T E) → ((x : E) → P x → Q x → R x) → IfErr r P → IfErr r Q → IfErr r R
if_err_both P Q R (Ok x) f h k = tt
if_err_both P Q R (Err e) f h k = f e h k

pub more_from : (first then last : ℕ) → first ≤ then → MoreFaults then last → MoreFaults first last
more_from first then last below more = omega (arith, more, below)

pub halves : (a b : Bool) → IsTrue (a && b) → IsTrue a × IsTrue b
halves true b h = (refl, h)
halves false b h = absurd (true≢false (sym h))

pub both_true : (a b : Bool) → IsTrue a → IsTrue b → IsTrue (a && b)
both_true true b h k = k
both_true false b h k = absurd (true≢false (sym h))

-- the files stand for one database
pages_once : (size : ℕ) (image : Image) (p q : PageMap) → Recovers size image p → Recovers size image q → p ≡ q
pages_once size image p q a b = sym a.shows ∙ ap (trimmed size) (recovers_once (stored_size size) image a.stored b.stored a.found b.found) ∙ b.shows

pub read_alike : (size : ℕ) (old new : Image) (schema : List Wanted) (db : Trees) → StandAlike size old new → ReadAs size new schema db → ReadAs size old schema db
read_alike size old new schema db (pages, was, now) (p, found, is) = (p, subst (Recovers size old) (pages_once size new pages p now found) was, is)

-- files that stand for the same database do not hold a store in the only format that it may have
pub none_of_format : (old new : Image) (format : Format) → StandAlike used_page old new → HoldsOnly old format → ¬ HoldsAs new format → ¬ HoldsTables old
none_of_format old new format (pages, was, now) only none (other, held) =
    let h = subst (HoldsAs old) (only other held) held in
    none (h.0, subst (Recovers used_page new) (pages_once used_page old pages h.0 was h.1) now, h.2)

-- the rows under which a store of this format lists its tables
entries_in : (format : Format) (pages : PageMap) (rows : List Row) → rows ≡ entries_of 1 (tables_of format) (roots_of used_page (tables_of format) pages) → format ≡ format_in rows
unfolding roots_of sql_of
entries_in First pages rows is = ap format_in (sym is)
entries_in Second pages rows is = ap format_in (sym is)
entries_in Third pages rows is = ap format_in (sym is)
entries_in Exchanged pages rows is = ap format_in (sym is)

-- a store in the files has the format that the rows of its sqlite_schema tell
pub only_format : (image : Image) (pages : PageMap) (rows : List Row) → Recovers used_page image pages → rows ≡ rows_at used_page (in_use used_page pages) Table 1 → HoldsOnly image (format_in rows)
only_format image pages rows found lists format (q, again, ours) =
    let same = pages_once used_page image pages q found again in
    entries_in format (in_use used_page q) rows (lists ∙ ap (λ (x : PageMap). rows_at used_page (in_use used_page x) Table 1) same ∙ (ours.numbered refl).listed)

module _ {D : Type 0} {g : Ghosts D} where
  pub committed_as : (it : FileStore D g) → IsReady it → IsClean (view it) → (view it).committed ≡ file_trees (state it).page_size (schema_of it) (state it).committed
  committed_as it ready clean = rw (clean_of _ clean) (ap (λ (saved : Option Saved). file_trees (state it).page_size (kept_schema saved (schema_of it)) (state it).committed) ready.unaltered)

  pub fresh_if_ready : (it : FileStore D g) → IsReady it → IsSchema (schema_of it) → IsTrue (view it).is_numbered → IsClean (view it) → IsFresh (view it)
  fresh_if_ready it ready (format, is) numbered clean = record {
    tables = record {
      requests = shape_first (schema_of it) (subst (λ (schema : List Wanted). shape_at schema 0 ≡ Table) (sym is) refl);
      runs = shape_second (schema_of it) (subst (λ (schema : List Wanted). shape_at schema 1 ≡ Table) (sym is) refl);
      alike = ap (λ (saved : Option Saved). all_shapes (kept_schema saved (schema_of it))) ready.unaltered;
      numbered = numbered;
      unreal = subst (λ (schema : List Wanted). all_reals schema 1 ≡ 0) (sym is) (unreal_second format);
      first_unreal = subst (λ (schema : List Wanted). all_reals schema 0 ≡ 0) (sym is) (unreal_first format);
      last_unreal = subst (λ (schema : List Wanted). all_reals schema 2 ≡ 0) (sym is) (unreal_third format);
      typed = ap (λ (saved : Option Saved). all_reals (kept_schema saved (schema_of it))) ready.unaltered;
    };
    shaped =
        let at : table_in (view it).trees ≡ table_number format = ap table_in (ready.clean ∙ committed_as it ready clean) ∙ ap table_listed (listed_trees (state it).page_size (schema_of it) (state it).committed) ∙ ap (λ (schema : List Wanted). table_listed (listed_from 0 schema)) is ∙ table_found format in
        subst (λ (t : ℕ). (view it).shape t ≡ Table) (sym at) (subst (λ (schema : List Wanted). all_shapes schema (table_number format) ≡ Table) (sym is) (shaped_at format));
    sound = ready.sound clean;
    same = ready.clean;
  }

  pool_clean : (it : Pool D g) → (below.state it).is_clean ≡ are_clean g (below.files it).0 (below.files it).1
  unfolding below.state files
  pool_clean it = refl

  pub clean_files : (it : Unopened D g) (log db : D) → files_of it ≡ (log, db) → IsTrue (state_of it).is_clean → AreClean g log db
  clean_files it log db is clean = ap (λ (f : D × D). are_clean g f.0 f.1) (sym is) ∙ sym (pool_clean it.pool) ∙ clean

  pool_faults : (it : Pool D g) → (below.state it).faults ≡ g.faults (below.files it).0 + g.faults (below.files it).1
  unfolding below.state files
  pool_faults it = refl

  -- the files that were given back are clean as they were, and have failed as often
  pub clean_back : (it : Unopened D g) (left : Files D) → (left.log, left.db) ≡ files_of it → AreCleanFiles g left → IsTrue (state_of it).is_clean
  clean_back it left is clean = pool_clean it.pool ∙ ap (λ (f : D × D). are_clean g f.0 f.1) (sym is) ∙ clean

  pub faults_back : (it : Unopened D g) (left : Files D) → (left.log, left.db) ≡ files_of it → (state_of it).faults ≡ faults_in g left
  faults_back it left is = pool_faults it.pool ∙ ap (λ (f : D × D). g.faults f.0 + g.faults f.1) (sym is)

  -- reads of the files return what they did
  pub image_kept : (old new : Files D) → OnlyReads g old.log new.log → OnlyReads g old.db new.db → image_of g new ≡ image_of g old
  image_kept old new a b = ap (λ (l : List ℕ). let i : Image = record { log = l; db = g.seen new.db } in i) a.seen ∙ ap (λ (d : List ℕ). let i : Image = record { log = g.seen old.log; db = d } in i) b.seen

  -- files whose open was refused hold no store of the format
  pub no_file : (it : Unopened D g) (format : Format) (i : Image) → image it ≡ i → (state_of it).page_size ≡ used_page → wanted_by it ≡ tables_of format → ¬ HasFileAs it true → ¬ HoldsAs i format
  no_file it format i same size wanted none held =
      none (
        held.0,
        subst (λ (n : ℕ). Recovers n (image it) held.0) (sym size) (subst (λ (x : Image). Recovers used_page x held.0) (sym same) held.1),
        subst (λ (n : ℕ). IsOurs n true (wanted_by it) held.0) (sym size) (subst (λ (s : List Wanted). IsOurs used_page true s held.0) (sym wanted) held.2),
      )

  -- files that hold no database of any schema hold none of this one
  pub no_some_file : (it : Unopened D g) → (state_of it).page_size ≡ used_page → ¬ HasSomeFile it → ¬ HoldsTables (image it)
  no_some_file it size none held =
      none (
        held.1.0,
        subst (λ (n : ℕ). Recovers n (image it) held.1.0) (sym size) held.1.1,
        (tables_of held.0, subst (λ (n : ℕ). IsFile n (tables_of held.0) held.1.0) (sym size) held.1.2.file),
      )

  pub clean_from : (it : Unopened D g) (files : Files D) → files_of it ≡ (files.log, files.db) → IsTrue (state_of it).is_clean → AreCleanFiles g files
  clean_from it files is clean = clean_files it files.log files.db is clean

-- why an open fails, in the words of the faults
pub reason_of : (old new : ℕ) (AtLimit Wanted : Type 0) (e : OpenError) (name : StoreError) → FailsToOpen old new AtLimit Wanted e → HasOpenReason (because (MoreFaults old new) AtLimit (¬ Wanted)) (fault_of_opening e name)
reason_of old new L W kit.OutOfMemory name h = tt
reason_of old new L W kit.Io names.OutOfMemory h = h
reason_of old new L W kit.Io names.Io h = h
reason_of old new L W kit.Io names.Corrupt h = inl h
reason_of old new L W kit.Io names.Full h = h
reason_of old new L W kit.Io names.Broken h = h
reason_of old new L W kit.Io names.Unstorable h = h
reason_of old new L W kit.Full name h = h
reason_of old new L W kit.Refused name h = h

-- the same reasons in other words
pub reason_all : (r s : OpenReasons) (fault : OpenFault) → (r.Failed → s.Failed) → (r.AtLimit → s.AtLimit) → (r.Refused → s.Refused) → (r.IsMissing → s.IsMissing) → (r.LogIsAlone → s.LogIsAlone) → (r.IsThere → s.IsThere) → HasOpenReason r fault → HasOpenReason s fault
reason_all r s faults.Memory f l w m a t h = tt
reason_all r s faults.Busy f l w m a t h = h
reason_all r s faults.Unopened f l w m a t h = h
reason_all r s faults.Disk f l w m a t h = f h
reason_all r s faults.Full f l w m a t h = f h
reason_all r s faults.AtLimit f l w m a t h = l h
reason_all r s faults.Damaged f l w m a t (inl h) = inl (f h)
reason_all r s faults.Damaged f l w m a t (inr h) = inr (w h)
reason_all r s faults.NotStore f l w m a t h = w h
reason_all r s faults.Missing f l w m a t h = m h
reason_all r s faults.LogAlone f l w m a t h = a h
reason_all r s faults.Exists f l w m a t h = t h
reason_all r s faults.OtherFormat f l w m a t h = w h

pub reason_as : (F L W : Type 0) (s : OpenReasons) (fault : OpenFault) → (F → s.Failed) → (L → s.AtLimit) → (W → s.Refused) → HasOpenReason (because F L W) fault → HasOpenReason s fault
reason_as F L W s fault f l w h = reason_all (because F L W) s fault f l w (λ no. absurd no) (λ no. absurd no) (λ no. absurd no) h

module _ {D : Type 0} {g : Ghosts D} where
  -- the same of the files that were given back
  pub reason_back : (old : ℕ) (left : Unopened D g) (r : Files D) (Limit Wanted : Type 0) (e : OpenError) (name : StoreError) (fault : OpenFault) → (r.log, r.db) ≡ files_of left → fault ≡ fault_of_opening e name → (Limit → IsFullFile left ⊎ StopsCreating left)
      → FailsToOpen old (state_of left).faults Limit Wanted e → HasOpenReason (because (MoreFaults old (faults_in g r)) (MeetsLimit g r) (¬ Wanted)) fault
  reason_back old left r Limit Wanted e name fault files is limit fails =
      let there = reason_of old (state_of left).faults Limit Wanted e name fails in
      subst (HasOpenReason (because (MoreFaults old (faults_in g r)) (MeetsLimit g r) (¬ Wanted))) (sym is) (
      reason_as (MoreFaults old (state_of left).faults) Limit (¬ Wanted) (because (MoreFaults old (faults_in g r)) (MeetsLimit g r) (¬ Wanted)) (fault_of_opening e name)
      (λ f. subst (MoreFaults old) (faults_back left r files) f) (λ l. (left, sym files, limit l)) (λ w. w) there
      )

pub kind_reason : (r : OpenReasons) (fault : OpenFault) → IsKind fault → r.Refused → HasOpenReason r fault
kind_reason r faults.Memory k w = tt
kind_reason r faults.Busy k w = k
kind_reason r faults.Unopened k w = k
kind_reason r faults.Disk k w = absurd k
kind_reason r faults.Full k w = absurd k
kind_reason r faults.AtLimit k w = absurd k
kind_reason r faults.Damaged k w = inr w
kind_reason r faults.NotStore k w = w
kind_reason r faults.Missing k w = absurd k
kind_reason r faults.LogAlone k w = absurd k
kind_reason r faults.Exists k w = absurd k
kind_reason r faults.OtherFormat k w = w

module _ {D : Type 0} {g : Ghosts D} where
  -- the reasons of an open, where reads of the files came first
  pub reasons_kept : (old mid new : Files D) (fault : OpenFault) → OnlyReads g old.log mid.log → OnlyReads g old.db mid.db → faults_in g old ≤ faults_in g mid → HasOpenReason (reasons g mid new) fault → HasOpenReason (reasons g old new) fault
  reasons_kept old mid new fault log db counts h =
      let same = image_kept old mid log db in
      reason_all (reasons g mid new) (reasons g old new) fault (λ f. elim f [ inl more ↦ inl (more_from _ _ _ counts more) | inr u ↦ inr u ])
      (λ l. elim l [ inl limit ↦ inl limit | inr long ↦ inr (long_kept long) ]) (subst HoldsNone same) (subst IsUnused same) (λ a. (subst (IsBlankFile used_page) same a.0, subst HasLog log.seen a.1)) (λ t. t) h
    where
      long_kept : IsLongLog g mid → IsLongLog g old
      long_kept long = (subst (IsLogFor whole_page) log.seen long.0, subst (IsHuge whole_page) (image_kept old mid log db) long.1)

pub log_refused : (old new : ℕ) (bytes : List ℕ) (e : Error) → IsTrue (refuses_log e) → HasCause old new (RefusesLog whole_page bytes) e → HasLog bytes
log_refused old new bytes (log.Io e) is h = absurd (true≢false (sym is))
log_refused old new bytes log.OutOfMemory is h = absurd (true≢false (sym is))
log_refused old new bytes log.Closed is h = inr (log.Closed, h)
log_refused old new bytes log.NoSuchPage is h = inr (log.NoSuchPage, h)
log_refused old new bytes log.Full is h = inr (log.Full, h)
log_refused old new bytes log.Corrupt is h = inr (log.Corrupt, h)
log_refused old new bytes log.Exists is h = inr (log.Exists, h)

module _ {D : Type 0} {g : Ghosts D} where
  -- the files are clean before the log is read alone, if they are after it
  pub clean_beside : (log new db : D) → OnlyReads g log new → AreClean g new db → AreClean g log db
  clean_beside log new db same clean = let both = halves (g.is_clean new) (g.is_clean db) clean in both_true (g.is_clean log) (g.is_clean db) (same.clean both.0) both.1
