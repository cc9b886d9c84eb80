-- A transaction that lists the tables of a store anew.
use Rattle.std.specs.Prelude.{◌≡◌, ◌≢◌, ◌⊎◌, ℕ, true, false, List, IsTrue}
use Rattle.sqlite_value.specs.Order.{Row}
use Rattle.sqlite_trees.specs.Tree.{Trees, put_row}
use Rattle.sqlite_trees.specs.View.{View, IsStorable}
use Rattle.sqlite_trees.specs.Objects.{catalog_tree, version_tree, set_at}
use Rattle.sqlite_trees.specs.Sound.{is_sound_list}
use Rattle.sqlite_trees.specs.declared.store.Shape.TheVariants.{Absent}
use Rattle.ups_store.specs.Rows.{table_in}
use Rattle.ups_store.specs.Format.{run_listing, draft_listing, names_draft, has_third, with_runs, with_third, upgraded}

-- the transaction is sound, and lists the runs as this version has them
pub record ListsRuns (old new : View) : Type 0 where
  pub sound : old.is_broken ≡ false
  pub is : new ≡ record old { trees = with_runs old.trees; reals = set_at old.reals 1 0; cursors = new.cursors }

-- the transaction is sound and leaves each table that is there; the list of tables and the user version may have changed
pub record AddsTrees (old new : View) : Type 0 where
  pub sound : old.is_broken ≡ false
  pub is : new ≡ record old { trees = new.trees; shape = new.shape; reals = new.reals; cursors = new.cursors }
  pub shapes : (t : ℕ) → old.shape t ≢ Absent → new.shape t ≡ old.shape t
  pub rows : (t : ℕ) → old.shape t ≢ Absent → t ≢ catalog_tree → t ≢ version_tree → new.trees t ≡ old.trees t
  pub tabled : table_in new.trees ≡ table_in old.trees

-- the transaction has a draft
pub record AddsDraft (old new : View) : Type 0 where
  pub adds : AddsTrees old new
  pub trees : new.trees ≡ with_third old.trees
  pub unreal : (t : ℕ) → old.reals t ≡ 0 → new.reals t ≡ 0

-- the transaction is sound, and has the same requests and runs as a database of the format of this version
pub record ListsAnew (old new : View) : Type 0 where
  pub adds : AddsTrees old new
  pub trees : new.trees ≡ upgraded old.trees
  pub unreal : (t : ℕ) → old.reals t ≡ 0 → new.reals t ≡ 0

-- the last commit stands while the store is open, whatever the transaction lists
pub record KeepsLastCommit (old new : View) : Type 0 where
  pub shape : new.committed_shape ≡ old.committed_shape
  pub reals : new.committed_reals ≡ old.committed_reals
  pub numbered : new.is_numbered ≡ old.is_numbered
  pub was_open : IsTrue new.is_open → IsTrue old.is_open
  pub committed : IsTrue new.is_open → new.committed ≡ old.committed

-- the list of tables that would come is one that SQLite does not load
abbrev pub CannotListRuns : Trees → Type 0
CannotListRuns trees = (¬ IsStorable 0 run_listing) ⊎ (is_sound_list (put_row run_listing (trees catalog_tree)) ≡ false)

-- the same with a draft, or another table has its name
abbrev pub CannotDraft : List Row → Type 0
CannotDraft listed =
    (has_third listed ≡ false)
    × ((¬ IsStorable 0 draft_listing) ⊎ ((is_sound_list (put_row draft_listing listed) ≡ false) ⊎ (names_draft listed ≡ true)))

abbrev pub CannotList : Trees → Type 0
CannotList trees = CannotListRuns trees ⊎ CannotDraft (with_runs trees catalog_tree)
