-- The requests once the two tables are exchanged.
use Rattle.std.proofs.Common.{◌≡◌, inl, inr, ℕ, ◌-◌, ◌<◌, pos, true, false, List, [], ◌∷◌, length, map, codes, find, unwrap_or, Option, Some, refl, sym, ap, subst, ◌∙◌, arith, ne_eqb}
use Rattle.std.specs.declared.cmp.Ordering.{Ordering}
use Rattle.std.specs.declared.cmp.Ordering.TheVariants.{Less, Equal, Greater}
use Rattle.std.specs.Int.{bit_at}
use Rattle.std.specs.Ordering.{is_eq}
use Rattle.sqlite_value.specs.declared.value.Value.{Value}
use Rattle.sqlite_value.specs.declared.value.Value.TheVariants.{Int}
use Rattle.sqlite_value.specs.Order.{Row, value_cmp}
use Rattle.sqlite_store.specs.declared.catalog.Wanted.{Wanted}
use Rattle.sqlite_store.specs.Catalog.{wanted_of}
use Rattle.sqlite_trees.specs.Tree.{Trees, rowid, has_rowid, put_row, with_tree}
use Rattle.sqlite_trees.specs.Objects.{catalog_tree, is_frozen, object_row, set_at, MayRelist, Relists}
use Rattle.sqlite_trees.specs.declared.schema.Object.{Object}
use Rattle.sqlite_trees.specs.declared.store.Shape.TheVariants.{Table}
use Rattle.sqlite_trees.specs.View.{View, SetsTree, Commits}
use Rattle.ups_store.specs.Format.{request_table}
use Rattle.ups_store.specs.Rows.{table_by, table_listed, table_in, requests_in, requests_in_tree, drafts_in, request_in, IsNumbered}
use Rattle.ups_store.specs.Held.{HasTables, Holds, HasDraft}
use Rattle.ups_store.specs.Upgrading.{KeepsLastCommit}
use Rattle.ups_store.specs.Exchanging.{listed_as, exchanged_list, ListsExchanged, Exchanges}
use Rattle.ups_store.proofs.Tables.{IsLow, low_from, low_not_runs, not_catalog, others_set, own_set, requests_at, numbered_at}
use Rattle.ups_store.proofs.Dropped.{same_id}
use Rattle.ups_store.proofs.Relisted.{row_kept, unreal_set, there}
use Rattle.ups_store.proofs.Drafted.{low_other, other_back, drafts_at, drafts_counted}

-- a row that was put is found by its number
row_there : (rows : List Row) (new : Row) (m : ℕ) → rowid new ≡ Int (pos m) → find (has_rowid (pos m)) (put_row new rows) ≡ Some new
row_there rows new m is = all rows
  where
    itself : has_rowid (pos m) new ≡ true
    itself = ap is_eq (ap (λ (v : Value). value_cmp v (Int (pos m))) is ∙ same_id (Int (pos m)))

    all : (rows : List Row) → find (has_rowid (pos m)) (put_row new rows) ≡ Some new
    all [] = rw itself refl
    all (r ∷ rs) = go (value_cmp (rowid r) (rowid new)) refl (all rs)
      where
        go : (o : Ordering) → value_cmp (rowid r) (rowid new) ≡ o → find (has_rowid (pos m)) (put_row new rs) ≡ Some new → find (has_rowid (pos m)) (put_row new (r ∷ rs)) ≡ Some new
        go Less e rest =
            let other : has_rowid (pos m) r ≡ false = ap (λ (v : Value). is_eq (value_cmp (rowid r) v)) (sym is) ∙ ap is_eq e in
            rw (e, other) rest
        go Equal e rest = rw (e, itself) refl
        go Greater e rest = rw (e, itself) refl

-- the other tree is that of the requests then
first_listed : (rows : List Row) → table_listed (exchanged_list 0 rows) ≡ 2
unfolding table_listed
first_listed rows =
    ap (λ (found : Option Row). table_by (unwrap_or found [])) (row_kept (put_row (listed_as 0 (codes "draft")) rows) (listed_as 2 (codes "request")) 3 1 refl (λ e. omega (arith, e)) ∙ row_there rows (listed_as 0 (codes "draft")) 1 refl)

last_listed : (rows : List Row) → table_listed (exchanged_list 2 rows) ≡ 0
unfolding table_listed
last_listed rows = ap (λ (found : Option Row). table_by (unwrap_or found [])) (row_there (put_row (listed_as 2 (codes "draft")) rows) (listed_as 0 (codes "request")) 1 refl)

exchanged_listed : (rows : List Row) (t : ℕ) → IsLow t → table_listed (exchanged_list t rows) ≡ 2 - t
exchanged_listed rows t (inl is) = subst (λ (k : ℕ). table_listed (exchanged_list k rows) ≡ 2 - k) (sym is) (first_listed rows)
exchanged_listed rows t (inr is) = subst (λ (k : ℕ). table_listed (exchanged_list k rows) ≡ 2 - k) (sym is) (last_listed rows)

-- no column of the two is REAL
pub plain_at : (v : View) (t : ℕ) → HasTables v → IsLow t → v.reals t ≡ 0
plain_at v t tables (inl is) = ap v.reals is ∙ tables.first_unreal
plain_at v t tables (inr is) = ap v.reals is ∙ tables.last_unreal

low_few : (t : ℕ) → IsLow t → t < 65536
low_few t (inl is) = omega (arith, is)
low_few t (inr is) = omega (arith, is)

-- an object with the columns of a table of requests
pub record IsPlain (o : Object) : Type 0 where
  pub shape : o.shape ≡ Table
  pub reals : o.reals ≡ 0

pub plain_object : (o : Object) (name : List ℕ) → wanted_of o ≡ request_table name → IsPlain o
plain_object o name is = record { shape = ap (λ (w : Wanted). w.shape) is; reals = ap (λ (w : Wanted). w.reals) is }

pub may_relist : (v : View) (t : ℕ) (o : Object) → HasTables v → IsLow t → v.shape t ≡ Table → IsPlain o → MayRelist v (t, o)
may_relist v t o tables low shaped plain = record {
  low = low_few t low;
  shaped = shaped ∙ sym plain.shape;
  present = λ e. there o.shape plain.shape e;
  thawed = ap is_frozen plain.shape;
  typed = λ c other. absurd (other (ap (λ (n : ℕ). bit_at n c) (plain_at v t tables low ∙ sym plain.reals)));
}

pub lists_exchanged : (old new : View) (t s : ℕ) (a b : Object) → s ≡ 2 - t → IsPlain a → IsPlain b → object_row t a ≡ listed_as t (codes "draft") → object_row s b ≡ listed_as s (codes "request") → Relists old new ((t, a) ∷ (s, b) ∷ []) → ListsExchanged old new t
lists_exchanged old new t s a b spare plain_a plain_b row_a row_b relists =
    let f = λ (x y : Row) (m n k : ℕ). let v : View = record old { trees = with_tree old.trees catalog_tree (put_row y (put_row x (old.trees catalog_tree))); reals = set_at (set_at old.reals t m) k n; cursors = new.cursors } in v in
    let first = listed_as t (codes "draft") in
    record {
      sound = relists.sound;
      is = relists.is ∙ ap (λ (x : Row). f x (object_row s b) a.reals b.reals s) row_a ∙ ap (λ (y : Row). f first y a.reals b.reals s) row_b ∙ ap (λ (m : ℕ). f first (listed_as s (codes "request")) m b.reals s) plain_a.reals
          ∙ ap (λ (n : ℕ). f first (listed_as s (codes "request")) 0 n s) plain_b.reals ∙ ap (λ (k : ℕ). f first (listed_as k (codes "request")) 0 0 k) spare;
    }

-- the two steps
pub exchanges : (old mid new : View) (t : ℕ) (row : Row) → IsLow t → SetsTree old mid 1 (put_row row) → ListsExchanged mid new t → Exchanges old new t row
exchanges old mid new t row low sets lists = record {
  sound = sets.sound;
  is = lists.is ∙ ap (λ (v : View). record mid { trees = v.trees; reals = v.reals; cursors = new.cursors }) (sym lists.is) ∙ ap (λ (v : View). record v { trees = new.trees; reals = new.reals; cursors = new.cursors }) sets.is;
  unreal = λ k plain. ap (λ (v : View). v.reals k) lists.is ∙ unreal_set (set_at mid.reals t 0) (2 - t) k (unreal_set mid.reals t k (ap (λ (v : View). v.reals k) sets.is ∙ plain));
  runs = ap (λ (v : View). v.trees 1) lists.is ∙ own_set old mid 1 _ sets;
  rows = λ k catalog other.
      let here : new.trees k ≡ mid.trees k = ap (λ (v : View). v.trees k) lists.is ∙ rw (ne_eqb k catalog_tree catalog) refl in
      here ∙ others_set old mid 1 _ sets k other;
  tabled = ap (λ (v : View). table_in v.trees) lists.is ∙ exchanged_listed (mid.trees catalog_tree) t low;
}

rows_kept : (old mid : View) (t k : ℕ) (row : Row) → IsLow k → Exchanges old mid t row → mid.trees k ≡ old.trees k
rows_kept old mid t k row low ex = ex.rows k (λ e. not_catalog k low (sym e)) (low_not_runs k low)

-- what the store holds once that is committed
pub held_exchanged : (old mid new : View) (t count n : ℕ) (row : Row) → Holds old t count → HasDraft old t n → Exchanges old mid t row → Commits mid new → Holds new (2 - t) n
held_exchanged old mid new t count n row h has ex done =
    let tables = h.has.tables in
    let low = low_other t (low_from _ t h.tabled) in
    let rows : new.trees (2 - t) ≡ old.trees (2 - t) = ap (λ (v : View). v.trees (2 - t)) done.is ∙ rows_kept old mid t (2 - t) row low ex in
    record {
      has = record {
        tables = record {
          requests = ap (λ (v : View). v.shape 0) done.is ∙ ap (λ (v : View). v.shape 0) ex.is ∙ tables.requests;
          runs = ap (λ (v : View). v.shape 1) done.is ∙ ap (λ (v : View). v.shape 1) ex.is ∙ tables.runs;
          alike = ap (λ (v : View). v.committed_shape) done.is ∙ sym (ap (λ (v : View). v.shape) done.is);
          numbered = ap (λ (v : View). v.is_numbered) done.is ∙ ap (λ (v : View). v.is_numbered) ex.is ∙ tables.numbered;
          unreal = ap (λ (v : View). v.reals 1) done.is ∙ ex.unreal 1 tables.unreal;
          first_unreal = ap (λ (v : View). v.reals 0) done.is ∙ ex.unreal 0 tables.first_unreal;
          last_unreal = ap (λ (v : View). v.reals 2) done.is ∙ ex.unreal 2 tables.last_unreal;
          typed = ap (λ (v : View). v.committed_reals) done.is ∙ sym (ap (λ (v : View). v.reals) done.is);
        };
        shaped = ap (λ (v : View). v.shape (2 - t)) done.is ∙ ap (λ (v : View). v.shape (2 - t)) ex.is ∙ has.shaped;
      };
      tabled = ap (λ (v : View). table_in v.trees) done.is ∙ ex.tabled;
      adding = record { sound = ap (λ (v : View). v.is_broken) done.is ∙ done.sound; numbered = subst IsNumbered (sym rows) has.adding.numbered; counted = ap length rows ∙ has.adding.counted };
      same = ap (λ (v : View). v.trees) done.is ∙ sym (ap (λ (v : View). v.committed) done.is);
    }

requests_after : (old mid : View) (t count : ℕ) (row : Row) → Holds old t count → Exchanges old mid t row → requests_in mid.trees ≡ drafts_in old.committed
requests_after old mid t count row h ex =
    requests_at mid.trees (2 - t) ex.tabled ∙ ap (map request_in) (rows_kept old mid t (2 - t) row (low_other t (low_from _ t h.tabled)) ex) ∙ sym (drafts_at old.trees t h.tabled) ∙ ap drafts_in h.same

pub requests_exchanged : (old mid new : View) (t count : ℕ) (row : Row) → Holds old t count → Exchanges old mid t row → Commits mid new → requests_in new.committed ≡ drafts_in old.committed
requests_exchanged old mid new t count row h ex done = ap (λ (v : View). requests_in v.committed) done.is ∙ requests_after old mid t count row h ex

pub drafts_exchanged : (old mid new : View) (t count : ℕ) (row : Row) → Holds old t count → Exchanges old mid t row → Commits mid new → drafts_in new.committed ≡ requests_in old.committed
drafts_exchanged old mid new t count row h ex done =
    let low = low_from _ t h.tabled in
    ap (λ (v : View). drafts_in v.committed) done.is ∙ drafts_at mid.trees (2 - t) ex.tabled ∙ ap (requests_in_tree mid.trees) (other_back t low) ∙ ap (map request_in) (rows_kept old mid t t row low ex) ∙ sym (requests_at old.trees t h.tabled) ∙ ap requests_in h.same

pub runs_exchanged : (old mid new : View) (t count : ℕ) (row : Row) → Holds old t count → Exchanges old mid t row → Commits mid new → new.committed 1 ≡ put_row row (old.committed 1)
runs_exchanged old mid new t count row h ex done = ap (λ (v : View). v.committed 1) done.is ∙ ex.runs ∙ ap (λ (db : Trees). put_row row (db 1)) h.same

-- the number of requests in the draft
pub draft_is : (old : View) (t count n : ℕ) → Holds old t count → HasDraft old t n → n ≡ length (drafts_in old.committed)
draft_is old t count n h has = sym (drafts_counted old t count h ∙ has.adding.counted)

-- what it would commit
pub says_exchanged : (old mid : View) (t count n : ℕ) (row : Row) → Holds old t count → HasDraft old t n → Exchanges old mid t row → (requests_in mid.trees ≡ drafts_in old.committed) × IsNumbered (mid.trees (table_in mid.trees))
says_exchanged old mid t count n row h has ex =
    let rows = rows_kept old mid t (2 - t) row (low_other t (low_from _ t h.tabled)) ex in
    (requests_after old mid t count row h ex, numbered_at mid.trees (2 - t) ex.tabled (subst IsNumbered (sym rows) has.adding.numbered))
