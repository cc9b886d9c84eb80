-- A transaction that lists the two tables of requests under each other's names.
use Rattle.std.specs.Prelude.{◌≡◌, ◌≢◌, ◌⊎◌, ℕ, ◌-◌, false, List, codes}
use Rattle.sqlite_value.specs.Order.{Row}
use Rattle.sqlite_trees.specs.Tree.{with_tree, put_row}
use Rattle.sqlite_trees.specs.View.{View, IsStorable}
use Rattle.sqlite_trees.specs.Objects.{catalog_tree, listing, set_at}
use Rattle.sqlite_trees.specs.Sound.{is_sound_list}
use Rattle.sqlite_trees.specs.declared.store.Shape.TheVariants.{Table}
use Rattle.ups_store.specs.Format.{request_table}
use Rattle.ups_store.specs.Rows.{table_in}
use Rattle.ups_store.specs.Held.{HasTables}

-- a tree listed as a table of requests with this name
abbrev pub listed_as : ℕ → List ℕ → Row
listed_as tree name = listing tree (request_table name).row Table 0

-- the table of requests is listed as the draft, and the other one of trees 0 and 2 as the table of requests
abbrev pub exchanged_list : ℕ → List Row → List Row
exchanged_list table listed = put_row (listed_as (2 - table) (codes "request")) (put_row (listed_as table (codes "draft")) listed)

-- the list of tables that would come is one that SQLite does not load
abbrev pub CannotExchange : ℕ → List Row → Type 0
CannotExchange table listed =
    (¬ IsStorable 0 (listed_as table (codes "draft"))) ⊎ ((¬ IsStorable 0 (listed_as (2 - table) (codes "request"))) ⊎ (is_sound_list (exchanged_list table listed) ≡ false))

-- the requests are in this tree, and the other one of trees 0 and 2 is a table too
pub record CanExchange (v : View) (table : ℕ) : Type 0 where
  pub tables : HasTables v
  pub shaped : v.shape table ≡ Table
  pub spare : v.shape (2 - table) ≡ Table
  pub tabled : table_in v.trees ≡ table

-- the transaction is sound, and lists the two tables under each other's names
pub record ListsExchanged (old new : View) (table : ℕ) : Type 0 where
  pub sound : old.is_broken ≡ false
  pub is : new ≡ record old { trees = with_tree old.trees catalog_tree (exchanged_list table (old.trees catalog_tree)); reals = set_at (set_at old.reals table 0) (2 - table) 0; cursors = new.cursors }

-- the same, and it puts the row of a run: the other tree is that of the requests then, and both trees keep their rows
pub record Exchanges (old new : View) (table : ℕ) (row : Row) : Type 0 where
  pub sound : old.is_broken ≡ false
  pub is : new ≡ record old { trees = new.trees; reals = new.reals; cursors = new.cursors }
  pub unreal : (t : ℕ) → old.reals t ≡ 0 → new.reals t ≡ 0
  pub runs : new.trees 1 ≡ put_row row (old.trees 1)
  pub rows : (t : ℕ) → t ≢ catalog_tree → t ≢ 1 → new.trees t ≡ old.trees t
  pub tabled : table_in new.trees ≡ 2 - table
