-- The runs that are left once old ones are deleted.
use Rattle.std.proofs.Common.{◌≡◌, ℕ, ℤ, ◌-◌, Bool, true, false, nat_le, if◌then◌else◌, None, Some, List, [], ◌∷◌, refl, sym, ap, subst, ◌∙◌, Ordering, Less, Equal, Greater}
use Rattle.std.specs.Int.{w64, cast_unsigned}
use Rattle.std.specs.List.{AllByRecursion}
use Rattle.std.specs.Ordering.{ordering_reverse}
use Rattle.sqlite_value.specs.declared.value.Value.{Value}
use Rattle.sqlite_value.specs.declared.value.Value.TheVariants.{Null, Int, Real, Text, Blob}
use Rattle.sqlite_value.specs.Order.{Row, value_cmp}
use Rattle.sqlite_value.proofs.OrderLemmas.{value_cmp_total}
use Rattle.sqlite_trees.specs.Tree.{Trees, rowid, IsTable, without_rowid, from_key, sought, order_of}
use Rattle.sqlite_trees.specs.declared.store.Direction.TheVariants.{Forward}
use Rattle.sqlite_trees.specs.declared.store.Shape.{Shape}
use Rattle.sqlite_trees.specs.declared.store.Shape.TheVariants.{Table}
use Rattle.sqlite_trees.specs.View.{View, SetsTree, IsOrdered, IsShaped, with_cursor}
use Rattle.ups_store.specs.Runs.{old_in, first_old, last_runs, DropsRuns}
use Rattle.ups_store.proofs.Scans.{from_start}
use Rattle.ups_store.proofs.Tables.{others_set}

-- a cursor that was placed at the start has all runs left
pub placed_first : (old new : View) (key : Row) → key ≡ [] → new ≡ with_cursor old 0 (sought (order_of (old.shape 1)) Forward key (old.trees 1)) → new.cursors 0 ≡ Some (old.trees 1)
placed_first old new key none is =
    ap (λ (v : View). v.cursors 0) is ∙ ap (λ (k : Row). Some (from_key (order_of (old.shape 1)) k (old.trees 1))) none ∙ ap Some (from_start (order_of (old.shape 1)) (old.trees 1))

id_of : (number : ℕ) (v : Value) (id : ℤ) → old_in number v ≡ Some id → v ≡ Int id
id_of number Null id h = cc
id_of number (Real x) id h = cc
id_of number (Text t) id h = cc
id_of number (Blob b) id h = cc
id_of number (Int k) id h = go (nat_le 100 (number - cast_unsigned w64 k)) h
  where
    go : (b : Bool) → (if b then Some k else None) ≡ Some id → Int k ≡ Int id
    go true e = cc
    go false e = cc

itself : (o : Ordering) → o ≡ ordering_reverse o → o ≡ Equal
itself Less e = cc
itself Equal e = refl
itself Greater e = cc

pub same_id : (v : Value) → value_cmp v v ≡ Equal
same_id v = itself (value_cmp v v) (value_cmp_total.antisymm v v)

-- rows behind a row do not have its number
stay : (v : Value) (id : ℤ) (rows : List Row) → v ≡ Int id → AllByRecursion (λ b. value_cmp v (rowid b) ≡ Less) rows → without_rowid id rows ≡ rows
stay v id [] is above = refl
stay v id (row ∷ rows) is above =
    let over : value_cmp (rowid row) (Int id) ≡ Greater = ap (value_cmp (rowid row)) (sym is) ∙ value_cmp_total.antisymm (rowid row) v ∙ ap ordering_reverse above.0 in
    rw over (ap (λ (rs : List Row). row ∷ rs) (stay v id rows is above.1))

-- the first row goes with its number
pub first_dropped : (number : ℕ) (rows : List Row) (id : ℤ) → IsTable rows → first_old number rows ≡ Some id → last_runs number (without_rowid id rows) ≡ last_runs number rows
first_dropped number [] id table h = refl
first_dropped number (row ∷ rows) id table h =
    let is = id_of number (rowid row) id h in
    let equal : value_cmp (rowid row) (Int id) ≡ Equal = ap (λ (v : Value). value_cmp v (Int id)) is ∙ same_id (Int id) in
    rw (equal, h) (ap (last_runs number) (stay (rowid row) id rows is table.0))

-- the first run was old, and is deleted
pub drops_one : (old mid new : View) (number : ℕ) (id : ℤ) → mid ≡ record old { cursors = mid.cursors } → old.is_broken ≡ false → IsTable (old.trees 1) → first_old number (old.trees 1) ≡ Some id → SetsTree mid new 1 (without_rowid id) → DropsRuns old new number true
drops_one old mid new number id same sound table first sets =
    let trees : mid.trees ≡ old.trees = ap (λ (v : View). v.trees) same in
    record {
      sound = sound;
      stays = ap (λ (v : View). v.is_broken) sets.is ∙ sets.sound;
      others = λ t other. others_set mid new 1 _ sets t other ∙ ap (λ (db : Trees). db t) trees;
      runs = ap (λ (v : View). last_runs number (v.trees 1)) sets.is ∙ ap (λ (db : Trees). last_runs number (without_rowid id (db 1))) trees ∙ first_dropped number (old.trees 1) id table first;
    }

-- the runs are rows of a table
pub ordered_runs : (v : View) → v.shape 1 ≡ Table → IsOrdered v.shape v.trees → IsTable (v.trees 1)
ordered_runs v shape ordered = let is : IsShaped Table (v.trees 1) = subst (λ (s : Shape). IsShaped s (v.trees 1)) shape (ordered 1) in is.0
