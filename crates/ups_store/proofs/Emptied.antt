-- A table whose last rows are deleted.
use Rattle.std.proofs.Common.{◌≡◌, ℕ, zero, suc, ℤ, ◌+◌, ◌-◌, ◌<◌, true, false, None, Some, List, [], ◌∷◌, length, take, IsTrue, true≢false, refl, sym, ap, subst, ◌∙◌, arith, Less, Equal}
use Rattle.std.proofs.lemmas.List.{length-take-le, take-take}
use Rattle.std.specs.List.{AllByRecursion}
use Rattle.sqlite_value.specs.declared.value.Value.{Value}
use Rattle.sqlite_value.specs.declared.value.Value.TheVariants.{Null, Int, Real, Text, Blob}
use Rattle.sqlite_value.specs.Order.{Row, value_cmp}
use Rattle.sqlite_trees.specs.Tree.{Trees, rowid, IsTable, without_rowid}
use Rattle.sqlite_trees.specs.declared.store.Shape.{Shape}
use Rattle.sqlite_trees.specs.declared.store.Shape.TheVariants.{Table}
use Rattle.sqlite_trees.specs.View.{View, SetsTree, IsShaped, IsOrdered, is_int}
use Rattle.ups_store.specs.Runs.{last_row}
use Rattle.ups_store.specs.Drafting.{id_in, Drains, Cuts}
use Rattle.ups_store.proofs.Behind.{all_last}
use Rattle.ups_store.proofs.Dropped.{same_id}
use Rattle.ups_store.proofs.Tables.{others_set, own_set, others_through}

id_is : (v : Value) (id : ℤ) → id_in v ≡ Some id → v ≡ Int id
id_is Null id h = cc
id_is (Int k) id h = cc
id_is (Real x) id h = cc
id_is (Text t) id h = cc
id_is (Blob b) id h = cc

-- without the row that has the last number all others are left
cut_end : (rows : List Row) (id : ℤ) → IsTable rows → rowid (last_row rows) ≡ Int id → (n : ℕ) → length rows ≡ n + 1 → without_rowid id rows ≡ take n rows
cut_end [] id table is n h = absurd (omega (arith, h))
cut_end (r ∷ []) id table is zero h =
    let equal : value_cmp (rowid r) (Int id) ≡ Equal = ap (λ (v : Value). value_cmp v (Int id)) is ∙ same_id (Int id) in
    rw equal refl
cut_end (r ∷ []) id table is (suc n) h = absurd (omega (arith, h))
cut_end (r ∷ (s ∷ rs)) id table is zero h = absurd (omega (arith, h))
cut_end (r ∷ (s ∷ rs)) id table is (suc n) h =
    let below : value_cmp (rowid r) (Int id) ≡ Less = ap (value_cmp (rowid r)) (sym is) ∙ all_last (λ x. value_cmp (rowid r) (rowid x) ≡ Less) s rs table.0 in
    rw below (ap (λ (rows : List Row). r ∷ rows) (cut_end (s ∷ rs) id table.1 is n (omega (arith, h))))

some_row : (rows : List Row) (id : ℤ) → id_in (rowid (last_row rows)) ≡ Some id → 0 < length rows
some_row [] id h = absurd (cc)
some_row (r ∷ rows) id h = omega arith

no_int : (v : Value) → IsTrue (is_int v) → id_in v ≡ None → ⊥
no_int Null is h = true≢false (sym is)
no_int (Int k) is h = absurd (cc)
no_int (Real x) is h = true≢false (sym is)
no_int (Text t) is h = true≢false (sym is)
no_int (Blob b) is h = true≢false (sym is)

no_row : (rows : List Row) → AllByRecursion (λ r. IsTrue (is_int (rowid r))) rows → id_in (rowid (last_row rows)) ≡ None → rows ≡ []
no_row [] ints h = refl
no_row (r ∷ rows) ints h = absurd (no_int (rowid (last_row (r ∷ rows))) (all_last (λ x. IsTrue (is_int (rowid x))) r rows ints) h)

-- the rows of a table
pub shaped_rows : (v : View) (t : ℕ) → v.shape t ≡ Table → IsOrdered v.shape v.trees → IsShaped Table (v.trees t)
shaped_rows v t is ordered = subst (λ (s : Shape). IsShaped s (v.trees t)) is (ordered t)

-- the last row is deleted
pub drained : (old mid new : View) (t : ℕ) (row : Row) (id : ℤ) → mid ≡ record old { cursors = mid.cursors } → old.is_broken ≡ false → IsShaped Table (old.trees t) → row ≡ last_row (old.trees t) → id_in (rowid row) ≡ Some id → SetsTree mid new t (without_rowid id) → Drains old new t true
drained old mid new t row id same sound shaped last is sets =
    let trees : mid.trees ≡ old.trees = ap (λ (v : View). v.trees) same in
    let rows = old.trees t in
    let ends : id_in (rowid (last_row rows)) ≡ Some id = ap (λ (r : Row). id_in (rowid r)) (sym last) ∙ is in
    let some = some_row rows id ends in
    record {
      sound = sound;
      stays = ap (λ (v : View). v.is_broken) sets.is ∙ sets.sound;
      others = λ k other. others_set mid new t _ sets k other ∙ ap (λ (db : Trees). db k) trees;
      rows = (some, own_set mid new t _ sets ∙ ap (λ (db : Trees). without_rowid id (db t)) trees ∙ cut_end rows id shaped.0 (id_is (rowid (last_row rows)) id ends) (length rows - 1) (omega (arith, some)));
    }

-- there is none
pub none_drained : (old mid : View) (t : ℕ) (row : Row) → mid ≡ record old { cursors = mid.cursors } → old.is_broken ≡ false → IsShaped Table (old.trees t) → row ≡ last_row (old.trees t) → id_in (rowid row) ≡ None → Drains old mid t false
none_drained old mid t row same sound shaped last is =
    let trees : mid.trees ≡ old.trees = ap (λ (v : View). v.trees) same in
    let none : old.trees t ≡ [] = no_row (old.trees t) shaped.1 (ap (λ (r : Row). id_in (rowid r)) (sym last) ∙ is) in
    record {
      sound = sound;
      stays = ap (λ (v : View). v.is_broken) same ∙ sound;
      others = λ k other. ap (λ (db : Trees). db k) trees;
      rows = (none, ap (λ (db : Trees). db t) trees ∙ none);
    }

-- one more row is deleted
pub cuts_more : (old mid new : View) (t n : ℕ) → Cuts old mid t n false → Drains mid new t true → Cuts old new t (n + 1) false
cuts_more old mid new t n cut drain =
    let rows = old.trees t in
    let left = length rows - n in
    let most = cut.many refl in
    let counted : length (mid.trees t) ≡ left = ap length cut.rows ∙ length-take-le left rows (omega arith) in
    let some : 0 < length (mid.trees t) = drain.rows.0 in
    let at : left - 1 ≡ length rows - (n + 1) = omega arith in
    record {
      sound = cut.sound;
      stays = drain.stays;
      others = others_through old mid new t cut.others drain.others;
      rows = drain.rows.1 ∙ ap (λ (k : ℕ). take (k - 1) (mid.trees t)) counted ∙ ap (take (left - 1)) cut.rows ∙ take-take (left - 1) left rows (omega arith) ∙ ap (λ (k : ℕ). take k rows) at;
      few = λ e. absurd (true≢false (sym e));
      many = λ e. omega (arith, counted, some);
    }

-- none is left
pub cuts_all : (old mid new : View) (t n most : ℕ) → n < most → Cuts old mid t n false → Drains mid new t false → Cuts old new t most true
cuts_all old mid new t n most below cut drain =
    let rows = old.trees t in
    let left = length rows - n in
    let many = cut.many refl in
    let counted : length (mid.trees t) ≡ left = ap length cut.rows ∙ length-take-le left rows (omega arith) in
    let none : length (mid.trees t) ≡ 0 = ap length drain.rows.0 in
    let at : length rows - most ≡ 0 = omega (arith, counted, none, many, below) in
    record {
      sound = cut.sound;
      stays = drain.stays;
      others = others_through old mid new t cut.others drain.others;
      rows = drain.rows.1 ∙ ap (λ (k : ℕ). take k rows) (sym at);
      few = λ e. omega (arith, counted, none, many, below);
      many = λ e. absurd (true≢false e);
    }
