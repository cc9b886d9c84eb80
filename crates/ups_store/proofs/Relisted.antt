-- What a store has once its tables are listed anew.
use Rattle.std.proofs.Common.{◌≡◌, ◌≢◌, ◌⊎◌, inl, inr, ℕ, ◌+◌, pos, Bool, true, false, if◌then◌else◌, List, [], ◌∷◌, length, map, codes, find, unwrap_or, Option, Some, Result, Ok, Err, IfErr, ◌||◌, take, true≢false, IsTrue, refl, sym, ap, subst, ◌∙◌, arith, ne_eqb, ◌==◌}
use Rattle.std.specs.declared.cmp.Ordering.{Ordering}
use Rattle.std.specs.declared.cmp.Ordering.TheVariants.{Less, Equal, Greater}
use Rattle.sqlite_value.specs.declared.value.Value.TheVariants.{Int, Text}
use Rattle.sqlite_value.specs.declared.value.Value.{Value}
use Rattle.sqlite_value.specs.Order.{Row, column, bytes, value_cmp}
use Rattle.sqlite_value.proofs.OrderLemmas.{value_cmp-Int, value_cmp_total}
use Rattle.sqlite_trees.specs.Tree.{Trees, rowid, has_rowid, put_row}
use Rattle.sqlite_trees.specs.Objects.{catalog_tree, version_tree, version_rows, with_version, row_for, shape_code, number_in, is_frozen, object_row, listing, IsListed, IsFreeFor, Creates, SetsObject, set_at}
use Rattle.sqlite_trees.specs.declared.schema.Object.{Object}
use Rattle.sqlite_trees.specs.declared.error.StoreError.{StoreError}
use Rattle.sqlite_trees.specs.Sound.{is_sound_list}
use Rattle.sqlite_disk.specs.Disk.{MoreFaults}
use Rattle.sqlite_store.specs.declared.catalog.Wanted.{Wanted}
use Rattle.sqlite_store.specs.Catalog.{wanted_of}
use Rattle.std.specs.List.{AllByRecursion}
use Rattle.sqlite_trees.specs.declared.store.Shape.{Shape}
use Rattle.sqlite_trees.specs.declared.store.Shape.TheVariants.{Absent, Table}
use Rattle.std.proofs.lemmas.Bool.Decides.{nat_tests}
use Rattle.std.specs.Ordering.{is_eq}
use Rattle.sqlite_trees.specs.View.{View, IsClean, IsStorable, HasCause, SetsTree, IsRolledBack, Commits}
use Rattle.ups_store.specs.Rows.{table_by, table_listed, table_in, requests_in, request_in, IsNumbered}
use Rattle.ups_store.proofs.Tables.{IsLow, low_from, not_catalog, requests_at}
use Rattle.ups_store.specs.Format.{is_text_cell, request_table, names_draft, run_listing, draft_listing, has_third, with_runs, with_draft, with_third, upgraded, format_number, current_format, IsCurrent}
use Rattle.ups_store.specs.Held.{Holds, HoldsIfOpen}
use Rattle.ups_store.specs.Upgrading.{ListsRuns, AddsTrees, AddsDraft, ListsAnew, KeepsLastCommit, CannotDraft}
use Rattle.ups_store.proofs.Steps.{adding_as, later_cause}

-- a transaction that is rolled back leaves what was committed
pub undone : (old mid new : View) → IsClean new → KeepsLastCommit old mid → IsRolledBack mid new → IsTrue new.is_open → IsTrue old.is_open × (new.committed ≡ old.committed)
undone old mid new clean stands back up =
    let k = back.kept clean in
    let was = k.was_open up in
    (stands.was_open was, k.committed up ∙ stands.committed was)

pub held_unlisted : (old mid new : View) (t count : ℕ) → HoldsIfOpen old t count → IsClean new → KeepsLastCommit old mid → IsRolledBack mid new → IsTrue new.is_open → Holds new t count
held_unlisted old mid new t count held clean stands back up =
    let both = undone old mid new clean stands back up in
    let h = held both.0 in
    let k = back.kept clean in
    let shape : new.shape ≡ old.shape = subst (λ b. new.shape ≡ (if b then mid.committed_shape else mid.shape)) up k.shape ∙ stands.shape ∙ h.has.tables.alike in
    let reals : new.reals ≡ old.reals = subst (λ b. new.reals ≡ (if b then mid.committed_reals else mid.reals)) up k.reals ∙ stands.reals ∙ h.has.tables.typed in
    let trees : new.trees ≡ old.trees = (back.undone up).0 ∙ stands.committed (k.was_open up) ∙ sym h.same in
    record {
      has = record {
        tables = record {
          requests = ap (λ (f : ℕ → Shape). f 0) shape ∙ h.has.tables.requests;
          runs = ap (λ (f : ℕ → Shape). f 1) shape ∙ h.has.tables.runs;
          alike = back.committed_shape ∙ stands.shape ∙ h.has.tables.alike ∙ sym shape;
          numbered = back.numbered ∙ stands.numbered ∙ h.has.tables.numbered;
          unreal = ap (λ (f : ℕ → ℕ). f 1) reals ∙ h.has.tables.unreal;
          first_unreal = ap (λ (f : ℕ → ℕ). f 0) reals ∙ h.has.tables.first_unreal;
          last_unreal = ap (λ (f : ℕ → ℕ). f 2) reals ∙ h.has.tables.last_unreal;
          typed = back.committed_reals ∙ stands.reals ∙ h.has.tables.typed ∙ sym reals;
        };
        shaped = ap (λ (f : ℕ → Shape). f t) shape ∙ h.has.shaped;
      };
      tabled = ap table_in trees ∙ h.tabled;
      adding = adding_as old new t count h.adding (back.undone up).1 trees;
      same = trees ∙ h.same ∙ sym both.1;
    }

-- a row of the list of tables stays if another one is put
pub row_kept : (rows : List Row) (new : Row) (m n : ℕ) → rowid new ≡ Int (pos m) → m ≢ n → find (has_rowid (pos n)) (put_row new rows) ≡ find (has_rowid (pos n)) rows
row_kept rows new m n is other = all rows
  where
    away : has_rowid (pos n) new ≡ false
    away = ap (λ (v : Value). is_eq (value_cmp v (Int (pos n)))) is ∙ ap is_eq (value_cmp-Int (pos m) (pos n)) ∙ grind (arith, nat_tests, other)

    all : (rows : List Row) → find (has_rowid (pos n)) (put_row new rows) ≡ find (has_rowid (pos n)) rows
    all [] = rw away refl
    all (r ∷ rs) = go (value_cmp (rowid r) (rowid new)) refl (all rs)
      where
        go : (o : Ordering) → value_cmp (rowid r) (rowid new) ≡ o → find (has_rowid (pos n)) (put_row new rs) ≡ find (has_rowid (pos n)) rs → find (has_rowid (pos n)) (put_row new (r ∷ rs)) ≡ find (has_rowid (pos n)) (r ∷ rs)
        go Less e rest = rw (e, rest) refl
        go Equal e rest =
            let same : has_rowid (pos n) r ≡ false = ap is_eq (value_cmp_total.congr (rowid r) (rowid new) (Int (pos n)) e) ∙ away in
            rw (e, away, same) refl
        go Greater e rest = rw (e, away) refl

pub listed_kept : (rows : List Row) (new : Row) (m : ℕ) → rowid new ≡ Int (pos m) → m ≢ 1 → table_listed (put_row new rows) ≡ table_listed rows
unfolding table_listed
listed_kept rows new m is other = ap (λ (found : Option Row). if is_text_cell (column (unwrap_or found []) 2) (codes "draft") then 2 else 0) (row_kept rows new m 1 is other)

pub there : (s : Shape) → s ≡ Table → s ≢ Absent
there s is absent = cc

-- a column that is not REAL stays so
pub unreal_set : (reals : ℕ → ℕ) (at t : ℕ) → reals t ≡ 0 → set_at reals at 0 t ≡ 0
unreal_set reals at t plain = go (t == at)
  where
    go : (b : Bool) → (if b then 0 else reals t) ≡ 0
    go true = refl
    go false = plain

-- the table of runs is listed anew
pub adds_listing : (old new : View) → ListsRuns old new → AddsTrees old new
adds_listing old new lists =
    let is = lists.is in
    record {
      sound = lists.sound;
      is = is ∙ ap (λ (v : View). record old { trees = v.trees; shape = v.shape; reals = v.reals; cursors = new.cursors }) (sym is);
      shapes = λ t _. ap (λ (v : View). v.shape t) is;
      rows = λ t _ catalog _. ap (λ (v : View). v.trees t) is ∙ rw (ne_eqb t catalog_tree catalog) refl;
      tabled = ap (λ (v : View). table_in v.trees) is ∙ listed_kept (old.trees catalog_tree) run_listing 2 refl (λ e. omega (arith, e));
    }

-- the draft is made
pub adds_draft : (old new : View) → old.is_broken ≡ false → old.shape 2 ≡ Absent → SetsObject old new 2 Table 0 (put_row draft_listing) → AddsTrees old new
adds_draft old new sound absent sets =
    let is = sets.is in
    record {
      sound = sound;
      is = is ∙ ap (λ (v : View). record old { trees = v.trees; shape = v.shape; reals = v.reals; cursors = new.cursors }) (sym is);
      shapes = λ t present. ap (λ (v : View). v.shape t) is ∙ rw (ne_eqb t 2 (not_third t present)) refl;
      rows = λ t present catalog _. ap (λ (v : View). v.trees t) is ∙ rw (ne_eqb t catalog_tree catalog, ne_eqb t 2 (not_third t present)) refl;
      tabled = ap (λ (v : View). table_in v.trees) is ∙ listed_kept (old.trees catalog_tree) draft_listing 3 refl (λ e. omega (arith, e));
    }
  where
    not_third : (t : ℕ) → old.shape t ≢ Absent → t ≢ 2
    not_third t present e = present (ap old.shape e ∙ absent)

-- the user version is set
adds_version : (old new : View) (version : ℕ) → SetsTree old new version_tree (λ _. version_rows version) → AddsTrees old new
adds_version old new version sets =
    let is = sets.is in
    record {
      sound = sets.sound;
      is = is ∙ ap (λ (v : View). record old { trees = v.trees; shape = v.shape; reals = v.reals; cursors = new.cursors }) (sym is);
      shapes = λ t _. ap (λ (v : View). v.shape t) is;
      rows = λ t _ _ other. ap (λ (v : View). v.trees t) is ∙ rw (ne_eqb t version_tree other) refl;
      tabled = ap (λ (v : View). table_in v.trees) is;
    }

adds_through : (a b c : View) → AddsTrees a b → AddsTrees b c → AddsTrees a c
adds_through a b c h k = record {
  sound = h.sound;
  is = k.is ∙ ap (λ (v : View). record v { trees = c.trees; shape = c.shape; reals = c.reals; cursors = c.cursors }) h.is;
  shapes = λ t present. k.shapes t (λ e. present (sym (h.shapes t present) ∙ e)) ∙ h.shapes t present;
  rows = λ t present catalog version. k.rows t (λ e. present (sym (h.shapes t present) ∙ e)) catalog version ∙ h.rows t present catalog version;
  tabled = k.tabled ∙ h.tabled;
}

-- the three steps
pub lists_anew : (a b c d : View) → ListsRuns a b → AddsDraft b c → SetsTree c d version_tree (λ _. version_rows (format_number current_format)) → ListsAnew a d
lists_anew a b c d runs draft version = record {
  adds = adds_through a b d (adds_listing a b runs) (adds_through b c d draft.adds (adds_version c d (format_number current_format) version));
  trees = ap (λ (v : View). v.trees) version.is ∙ ap (λ (db : Trees). with_version db (format_number current_format)) (draft.trees ∙ ap (λ (v : View). with_third v.trees) runs.is);
  unreal = λ t plain. ap (λ (v : View). v.reals t) version.is ∙ draft.unreal t (ap (λ (v : View). v.reals t) runs.is ∙ unreal_set a.reals 1 t plain);
}

-- the table of requests is there and stays
pub rows_added : (old new : View) (t : ℕ) → IsLow t → old.shape t ≡ Table → AddsTrees old new → new.trees t ≡ old.trees t
rows_added old new t low is adds = adds.rows t (there (old.shape t) is) (λ e. not_catalog t low (sym e)) (λ e. not_version t low e)
  where
    not_version : (t : ℕ) → IsLow t → t ≢ version_tree
    not_version t (inl is) e = omega (arith, is, e)
    not_version t (inr is) e = omega (arith, is, e)

pub held_listed : (old mid new : View) (t count : ℕ) → Holds old t count → ListsAnew old mid → Commits mid new → Holds new t count
held_listed old mid new t count h lists done =
    let tables = h.has.tables in
    let adds = lists.adds in
    let shape = λ (k : ℕ) (is : old.shape k ≡ Table). ap (λ (v : View). v.shape k) done.is ∙ adds.shapes k (there (old.shape k) is) ∙ is in
    let rows : new.trees t ≡ old.trees t = ap (λ (v : View). v.trees t) done.is ∙ rows_added old mid t (low_from _ t h.tabled) h.has.shaped adds in
    record {
      has = record {
        tables = record {
          requests = shape 0 tables.requests;
          runs = shape 1 tables.runs;
          alike = ap (λ (v : View). v.committed_shape) done.is ∙ sym (ap (λ (v : View). v.shape) done.is);
          numbered = ap (λ (v : View). v.is_numbered) done.is ∙ ap (λ (v : View). v.is_numbered) adds.is ∙ tables.numbered;
          unreal = ap (λ (v : View). v.reals 1) done.is ∙ lists.unreal 1 tables.unreal;
          first_unreal = ap (λ (v : View). v.reals 0) done.is ∙ lists.unreal 0 tables.first_unreal;
          last_unreal = ap (λ (v : View). v.reals 2) done.is ∙ lists.unreal 2 tables.last_unreal;
          typed = ap (λ (v : View). v.committed_reals) done.is ∙ sym (ap (λ (v : View). v.reals) done.is);
        };
        shaped = shape t h.has.shaped;
      };
      tabled = ap (λ (v : View). table_in v.trees) done.is ∙ adds.tabled ∙ h.tabled;
      adding = record {
        sound = ap (λ (v : View). v.is_broken) done.is ∙ done.sound;
        numbered = subst IsNumbered (sym rows) h.adding.numbered;
        counted = ap length rows ∙ h.adding.counted;
      };
      same = ap (λ (v : View). v.trees) done.is ∙ sym (ap (λ (v : View). v.committed) done.is);
    }

-- what is committed then
pub upgraded_as : (old mid new : View) (t count : ℕ) → Holds old t count → ListsAnew old mid → Commits mid new → new.committed ≡ upgraded old.committed
upgraded_as old mid new t count h lists done = ap (λ (v : View). v.committed) done.is ∙ lists.trees ∙ ap upgraded h.same

-- and the requests are those from before
pub requests_as : (old mid new : View) (t count : ℕ) → Holds old t count → ListsAnew old mid → Commits mid new → requests_in new.committed ≡ requests_in old.committed
requests_as old mid new t count h lists done =
    let tabled : table_in mid.trees ≡ t = lists.adds.tabled ∙ h.tabled in
    ap (λ (v : View). requests_in v.committed) done.is ∙ requests_at mid.trees t tabled ∙ ap (map request_in) (rows_added old mid t (low_from _ t h.tabled) h.has.shaped lists.adds) ∙ sym (requests_at old.trees t h.tabled) ∙ ap requests_in h.same

-- a row of the list of tables is the one that was put last for its tree
pub listed_row : (rows : List Row) → row_for (put_row run_listing rows) 1 ≡ run_listing
listed_row [] = let itself : value_cmp (Int (pos 2)) (Int (pos 2)) ≡ Equal = value_cmp-Int (pos 2) (pos 2) in rw itself refl
listed_row (r ∷ rs) = go (value_cmp (rowid r) (Int (pos 2))) refl (listed_row rs)
  where
    go : (o : Ordering) → value_cmp (rowid r) (Int (pos 2)) ≡ o → row_for (put_row run_listing rs) 1 ≡ run_listing → row_for (put_row run_listing (r ∷ rs)) 1 ≡ run_listing
    go Less is rest = let there : value_cmp (rowid r) (Int (pos (1 + 1))) ≡ Less = is in rw (is, there) rest
    go Equal is rest = let itself : value_cmp (Int (pos 2)) (Int (pos 2)) ≡ Equal = value_cmp-Int (pos 2) (pos 2) in rw (is, itself) refl
    go Greater is rest = let itself : value_cmp (Int (pos 2)) (Int (pos 2)) ≡ Equal = value_cmp-Int (pos 2) (pos 2) in rw (is, itself) refl

-- the runs are listed as this version has them, with a draft and without
listed_third : (db : Trees) → row_for (with_third (with_runs db) catalog_tree) 1 ≡ run_listing
listed_third db = go (has_third (with_runs db catalog_tree))
  where
    go : (b : Bool) → row_for ((if b then with_runs db else with_draft (with_runs db)) catalog_tree) 1 ≡ run_listing
    go true = listed_row (db catalog_tree)
    go false = ap (λ (found : Option Row). unwrap_or found []) (row_kept (with_runs db catalog_tree) draft_listing 3 2 refl (λ e. omega (arith, e))) ∙ listed_row (db catalog_tree)

pub current_as : (old mid new : View) (t count : ℕ) → Holds old t count → ListsAnew old mid → Commits mid new → IsCurrent new.committed
current_as old mid new t count h lists done =
    subst IsCurrent (sym (upgraded_as old mid new t count h lists done)) (record { runs = listed_third old.committed; version = refl })

-- a list of tables without a tree 2
pub third_absent : (v : View) → IsListed (v.trees catalog_tree) v.shape v.reals → v.shape 2 ≡ Absent → has_third (v.trees catalog_tree) ≡ false
third_absent v listed absent =
    let code : shape_code (v.shape 2) ≡ number_in (column (row_for (v.trees catalog_tree) 2) 5) = listed.shapes 2 (λ e. omega (arith, e)) (λ e. omega (arith, e)) in
    let none : number_in (column (row_for (v.trees catalog_tree) 2) 5) ≡ 0 = sym code ∙ ap shape_code absent in
    rw none refl

-- the draft as an object
pub record IsDraft (o : Object) : Type 0 where
  pub shape : o.shape ≡ Table
  pub reals : o.reals ≡ 0
  pub name : o.name.now ≡ codes "draft"
  pub row : object_row 2 o ≡ draft_listing

pub is_draft : (o : Object) → wanted_of o ≡ request_table (codes "draft") → ((tree : ℕ) → object_row tree o ≡ listing tree (request_table (codes "draft")).row Table 0) → IsDraft o
is_draft o wanted listed = record { shape = ap (λ (w : Wanted). w.shape) wanted; reals = ap (λ (w : Wanted). w.reals) wanted; name = ap (λ (w : Wanted). bytes (column w.row 1)) wanted; row = listed 2 }

pub makes_draft : (old new : View) (o : Object) → IsDraft o → IsListed (old.trees catalog_tree) old.shape old.reals → old.shape 2 ≡ Absent → Creates old new 2 o → AddsDraft old new
makes_draft old new o is listed absent creates =
    let shaped : SetsObject old new 2 Table o.reals (put_row (object_row 2 o)) = subst (λ (s : Shape). SetsObject old new 2 s o.reals (put_row (object_row 2 o))) is.shape creates in
    let unreal : SetsObject old new 2 Table 0 (put_row (object_row 2 o)) = subst (λ (n : ℕ). SetsObject old new 2 Table n (put_row (object_row 2 o))) is.reals shaped in
    let sets : SetsObject old new 2 Table 0 (put_row draft_listing) = subst (λ (r : Row). SetsObject old new 2 Table 0 (put_row r)) is.row unreal in
    let none = third_absent old listed absent in
    let third : with_third old.trees ≡ with_draft old.trees = rw none refl in
    record { adds = adds_draft old new sets.sound absent sets; trees = ap (λ (v : View). v.trees) sets.is ∙ sym third; unreal = λ t plain. ap (λ (v : View). v.reals t) sets.is ∙ unreal_set old.reals 2 t plain }

named : (v : Value) → is_text_cell v (codes "draft") ≡ false → v ≢ Text (codes "draft")
named v other is =
    let yes : is_text_cell v (codes "draft") ≡ true = ap (λ (x : Value). is_text_cell x (codes "draft")) is in
    cc

unnamed : (rows : List Row) → names_draft rows ≡ false → AllByRecursion (λ r. column r 2 ≢ Text (codes "draft")) rows
unnamed [] none = tt
unnamed (r ∷ rs) none = go (is_text_cell (column r 2) (codes "draft")) refl none (unnamed rs)
  where
    go : (b : Bool) → is_text_cell (column r 2) (codes "draft") ≡ b → (b || names_draft rs) ≡ false → (names_draft rs ≡ false → AllByRecursion (λ r. column r 2 ≢ Text (codes "draft")) rs) → AllByRecursion (λ r. column r 2 ≢ Text (codes "draft")) (r ∷ rs)
    go true is none rest = absurd (true≢false none)
    go false is none rest = (named (column r 2) is, rest none)

pub free_for_draft : (v : View) (o : Object) → IsDraft o → IsTrue v.is_numbered → v.shape 2 ≡ Absent → names_draft (v.trees catalog_tree) ≡ false → IsFreeFor v 2 o
free_for_draft v o is numbered absent none = record {
  numbered = numbered;
  low = omega arith;
  unused = absent;
  shaped = λ e. there o.shape is.shape e;
  thawed = ap is_frozen is.shape;
  unnamed = subst (λ (name : List ℕ). AllByRecursion (λ r. column r 2 ≢ Text name) (v.trees catalog_tree)) (sym is.name) (unnamed (v.trees catalog_tree) none);
}

-- a list without its last columns names the same tables
pub names_cut : (rows : List Row) → names_draft (map (take 5) rows) ≡ names_draft rows
names_cut [] = refl
names_cut (r ∷ rs) = rw (cut r, names_cut rs) refl
  where
    cut : (r : Row) → column (take 5 r) 2 ≡ column r 2
    cut [] = refl
    cut (a ∷ []) = refl
    cut (a ∷ (b ∷ [])) = refl
    cut (a ∷ (b ∷ (c ∷ rest))) = refl

pub table_cut : (rows : List Row) → table_listed (map (take 5) rows) ≡ table_listed rows
unfolding table_listed
table_cut [] = refl
table_cut (r ∷ rs) = rw (first r) (go (has_rowid (pos 1) r) (table_cut rs))
  where
    first : (r : Row) → has_rowid (pos 1) (take 5 r) ≡ has_rowid (pos 1) r
    first [] = refl
    first (a ∷ rest) = refl

    by : (r : Row) → table_by (take 5 r) ≡ table_by r
    by [] = refl
    by (a ∷ []) = refl
    by (a ∷ (b ∷ [])) = refl
    by (a ∷ (b ∷ (c ∷ rest))) = refl

    go : (one : Bool) → table_by (unwrap_or (find (has_rowid (pos 1)) (map (take 5) rs)) []) ≡ table_by (unwrap_or (find (has_rowid (pos 1)) rs) [])
        → table_by (unwrap_or (if one then Some (take 5 r) else find (has_rowid (pos 1)) (map (take 5) rs)) []) ≡ table_by (unwrap_or (if one then Some r else find (has_rowid (pos 1)) rs) [])
    go true rest = by r
    go false rest = rest

-- why no draft is made
pub draft_cause : {T : Type 0} (r : Result T StoreError) (v : View) (first last : ℕ) (o : Object) → IsDraft o → v.is_broken ≡ false → has_third (v.trees catalog_tree) ≡ false
    → IfErr r (HasCause v (MoreFaults first last) ((¬ IsStorable 0 (object_row 2 o)) ⊎ (is_sound_list (put_row (object_row 2 o) (v.trees catalog_tree)) ≡ false))) → IfErr r (HasCause v (MoreFaults first last) (CannotDraft (v.trees catalog_tree)))
draft_cause (Ok x) v first last o is sound none h = tt
draft_cause (Err e) v first last o is sound none h =
    later_cause v v first first last _ _ e (omega arith) sound
    (λ large. (none, elim large [ inl s ↦ inl (subst (λ (r : Row). ¬ IsStorable 0 r) is.row s) | inr l ↦ inr (inl (subst (λ (r : Row). is_sound_list (put_row r (v.trees catalog_tree)) ≡ false) is.row l)) ])) h
