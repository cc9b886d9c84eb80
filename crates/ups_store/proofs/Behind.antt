-- The last row of the runs, and the row of one behind it.
use Rattle.std.proofs.Common.{◌≡◌, ℕ, ℤ, pos, negsuc, ◌<◌, ◌^◌, List, [], ◌∷◌, ◌++◌, reverse, Option, Some, IsTrue, true≢false, refl, sym, ap, ◌∙◌, arith, Less}
use Rattle.std.proofs.lemmas.Bool.Decides.{nat_tests}
use Rattle.std.proofs.lemmas.Int.{to_z_pos}
use Rattle.std.proofs.lemmas.List.{reverse-append, reverse-reverse}
use Rattle.std.specs.Int.{w64, cast_unsigned}
use Rattle.std.specs.List.{AllByRecursion}
use Rattle.sqlite_value.specs.declared.value.Value.{Value}
use Rattle.sqlite_value.specs.declared.value.Value.TheVariants.{Null, Int, Real, Text, Blob}
use Rattle.sqlite_value.specs.Order.{Row, value_cmp}
use Rattle.sqlite_value.proofs.OrderLemmas.{value_cmp-Int, value_cmp_total}
use Rattle.sqlite_value.specs.declared.keys.Order.{Order}
use Rattle.sqlite_trees.specs.Tree.{up_to_key, sought, order_of, rowid, put_row, IsTable}
use Rattle.sqlite_trees.specs.declared.store.Direction.TheVariants.{Backward}
use Rattle.sqlite_trees.specs.View.{View, OnlyWrites, with_cursor, is_int}
use Rattle.ups_store.specs.Runs.{row_of_run, last_row, last_number, IsFirst}
use Rattle.ups_store.specs.Cells.{number_in}
use Rattle.ups_store.specs.declared.runs.Run.{Run}

up_to_end : (o : Order) (rows : List Row) → up_to_key o [] rows ≡ rows
up_to_end o [] = refl
up_to_end o ([] ∷ rows) = ap (λ (r : List Row). [] ∷ r) (up_to_end o rows)
up_to_end o ((v ∷ row) ∷ rows) = ap (λ (r : List Row). (v ∷ row) ∷ r) (up_to_end o rows)

-- a cursor that was placed at the end has all rows left, from the last on
pub placed_last : (old new : View) (t : ℕ) (key : Row) → key ≡ [] → new ≡ with_cursor old 0 (sought (order_of (old.shape t)) Backward key (old.trees t)) → new.cursors 0 ≡ Some (reverse (old.trees t))
placed_last old new t key none is =
    ap (λ (v : View). v.cursors 0) is ∙ ap (λ (k : Row). Some (reverse (up_to_key (order_of (old.shape t)) k (old.trees t)))) none ∙ ap (λ (rows : List Row). Some (reverse rows)) (up_to_end (order_of (old.shape t)) (old.trees t))

-- only the cursors have moved
pub moved : (old new : View) (left : List Row) → new ≡ with_cursor old 0 left → new ≡ record old { cursors = new.cursors }
moved old new left is = is ∙ ap (λ (c : ℕ → Option (List Row)). record old { cursors = c }) (sym (ap (λ (v : View). v.cursors) is))

pub only_moved : (old new : View) → new ≡ record old { cursors = new.cursors } → OnlyWrites old new
only_moved old new is = is ∙ ap (λ (t : ℕ → List Row). record old { trees = t; cursors = new.cursors }) (sym (ap (λ (v : View). v.trees) is))

last_behind : (rows : List Row) (row : Row) → last_row (rows ++ row ∷ []) ≡ row
last_behind [] row = refl
last_behind (a ∷ []) row = refl
last_behind (a ∷ (b ∷ rows)) row = last_behind (b ∷ rows) row

-- the first from the end is the last
pub first_is_last : (rows : List Row) (row : Row) → IsFirst (Some (reverse rows)) row → row ≡ last_row rows
first_is_last rows row h = go (reverse rows) h ∙ ap last_row (reverse-reverse rows)
  where
    go : (back : List Row) → IsFirst (Some back) row → row ≡ last_row (reverse back)
    go [] h = h
    go (r ∷ back) h = h ∙ sym (last_behind (reverse back) r) ∙ ap last_row (sym (reverse-append (r ∷ []) back))

low_number : (k : ℤ) (n : ℕ) → cast_unsigned w64 k < n → value_cmp (Int k) (Int (pos n)) ≡ Less
low_number (pos m) n h = value_cmp-Int _ _ ∙ grind (arith, nat_tests, h)
low_number (negsuc m) n h = value_cmp-Int _ _

low_value : (v : Value) (n : ℕ) → IsTrue (is_int v) → number_in v < n → value_cmp v (Int (pos n)) ≡ Less
low_value Null n is h = absurd (true≢false (sym is))
low_value (Int k) n is h = low_number k n h
low_value (Real x) n is h = absurd (true≢false (sym is))
low_value (Text t) n is h = absurd (true≢false (sym is))
low_value (Blob b) n is h = absurd (true≢false (sym is))

last_of : (P : Row → Type 0) (row : Row) (rows : List Row) → P row → AllByRecursion P rows → P (last_row (row ∷ rows))
last_of P row [] h all = h
last_of P row (next ∷ rows) h all = last_of P next rows all.0 all.1

pub all_last : (P : Row → Type 0) (row : Row) (rows : List Row) → AllByRecursion P (row ∷ rows) → P (last_row (row ∷ rows))
all_last P row rows all = last_of P row rows all.0 all.1

-- a row whose number is above the last one goes behind the others
put_above : (rows : List Row) (new : Row) (n : ℕ) → IsTable rows → AllByRecursion (λ r. IsTrue (is_int (rowid r))) rows → rowid new ≡ Int (pos n) → last_number rows < n → put_row new rows ≡ rows ++ new ∷ []
put_above [] new n table ints is low = refl
put_above (r ∷ []) new n table ints is low =
    let below : value_cmp (rowid r) (rowid new) ≡ Less = ap (value_cmp (rowid r)) is ∙ low_value (rowid r) n ints.0 low in
    rw below refl
put_above (r ∷ (s ∷ rows)) new n table ints is low =
    let last : value_cmp (rowid (last_row (s ∷ rows))) (Int (pos n)) ≡ Less = low_value (rowid (last_row (s ∷ rows))) n (all_last (λ r. IsTrue (is_int (rowid r))) s rows ints.1) low in
    let first : value_cmp (rowid r) (rowid (last_row (s ∷ rows))) ≡ Less = all_last (λ x. value_cmp (rowid r) (rowid x) ≡ Less) s rows table.0 in
    let below : value_cmp (rowid r) (rowid new) ≡ Less = ap (value_cmp (rowid r)) is ∙ value_cmp_total.trans _ _ _ first last in
    rw below (ap (λ (rows : List Row). r ∷ rows) (put_above (s ∷ rows) new n table.1 ints.1 is low))

pub put_behind : (rows : List Row) (number : ℕ) (run : Run) (requests : ℕ) → IsTable rows → AllByRecursion (λ r. IsTrue (is_int (rowid r))) rows → number < 2 ^ 63 → last_number rows < number
    → put_row (row_of_run number run requests) rows ≡ rows ++ row_of_run number run requests ∷ []
put_behind rows number run requests table ints small low = put_above rows (row_of_run number run requests) number table ints (ap Int (to_z_pos w64 number small)) low
