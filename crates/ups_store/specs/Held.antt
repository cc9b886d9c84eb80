-- The state of a store with its tables between two calls.
use Rattle.std.specs.Prelude.{◌≡◌, ◌≢◌, ℕ, ◌+◌, ◌-◌, ◌≤◌, false, List, ◌++◌, length, take, Option, Some, IsTrue}
use Rattle.sqlite_trees.specs.declared.store.Shape.TheVariants.{Table}
use Rattle.sqlite_trees.specs.View.{View}
use Rattle.ups_store.specs.declared.request.StoredRequest.{StoredRequest}
use Rattle.ups_store.specs.Rows.{rows_from, requests_in_tree, table_in, IsNumbered}

-- trees 0 and 1 are tables, that of the requests or the draft and that of the runs; no column of a tree is REAL
pub record HasTables (v : View) : Type 0 where
  pub requests : v.shape 0 ≡ Table
  pub runs : v.shape 1 ≡ Table
  pub alike : v.committed_shape ≡ v.shape
  pub numbered : IsTrue v.is_numbered
  pub unreal : v.reals 1 ≡ 0
  pub first_unreal : v.reals 0 ≡ 0
  pub last_unreal : v.reals 2 ≡ 0
  pub typed : v.committed_reals ≡ v.reals

-- the same of what is not committed alone
pub record AreTables (v : View) : Type 0 where
  pub requests : v.shape 0 ≡ Table
  pub runs : v.shape 1 ≡ Table
  pub unreal : v.reals 1 ≡ 0
  pub first_unreal : v.reals 0 ≡ 0
  pub last_unreal : v.reals 2 ≡ 0

-- the transaction is sound and has `count` requests in this tree, numbered from 1
pub record IsAdding (v : View) (table count : ℕ) : Type 0 where
  pub sound : v.is_broken ≡ false
  pub numbered : IsNumbered (v.trees table)
  pub counted : length (v.trees table) ≡ count

-- the same, of the tree of the requests
pub record IsPuttingIn (v : View) (table count : ℕ) : Type 0 where
  pub adding : IsAdding v table count
  pub tabled : table_in v.trees ≡ table

-- the transaction has the tables, and this tree is that of the requests
pub record HasTable (v : View) (table : ℕ) : Type 0 where
  pub tables : HasTables v
  pub shaped : v.shape table ≡ Table

-- the tables and `count` requests in this tree, with nothing uncommitted
pub record Holds (v : View) (table count : ℕ) : Type 0 where
  pub has : HasTable v table
  pub tabled : table_in v.trees ≡ table
  pub adding : IsAdding v table count
  pub same : v.trees ≡ v.committed

-- `count` requests are committed, unless a fault has shut the store
abbrev pub HoldsIfOpen : View → ℕ → ℕ → Type 0
HoldsIfOpen v table count = IsTrue v.is_open → Holds v table count

-- the transaction is sound and has `count` requests in the other one of trees 0 and 2, a table, numbered from 1
pub record HasDraft (v : View) (table count : ℕ) : Type 0 where
  pub shaped : v.shape (2 - table) ≡ Table
  pub adding : IsAdding v (2 - table) count

-- the draft has as many requests, if their number is known, unless a fault has shut the store
abbrev pub HoldsDraft : View → ℕ → Option ℕ → Type 0
HoldsDraft v table drafted = (count : ℕ) → drafted ≡ Some count → IsTrue v.is_open → HasDraft v table count

-- A store that was just opened has the tables, and nothing uncommitted.
pub record IsFresh (v : View) : Type 0 where
  pub tables : HasTables v
  pub shaped : v.shape (table_in v.trees) ≡ Table
  pub sound : v.is_broken ≡ false
  pub same : v.trees ≡ v.committed

-- the first `count` rows in this tree of a store that was just opened are requests, numbered from 1
pub record HasGiven (v : View) (table count : ℕ) : Type 0 where
  pub fresh : IsFresh v
  pub tabled : table_in v.trees ≡ table
  pub within : count ≤ length (v.trees table)
  pub rows : take count (v.trees table) ≡ rows_from 1 (take count (requests_in_tree v.trees table))

-- the transaction has these requests in this tree after the `count` ones before
pub record Adds (old new : View) (table : ℕ) (requests : List StoredRequest) (count : ℕ) : Type 0 where
  pub adding : IsAdding new table (count + length requests)
  pub more : requests_in_tree new.trees table ≡ requests_in_tree old.trees table ++ requests

-- the transaction leaves all other trees
abbrev pub LeavesOthers : View → View → ℕ → Type 0
LeavesOthers old new table = (t : ℕ) → t ≢ table → new.trees t ≡ old.trees t
