-- What is left of the requests while they are being replaced.
use Rattle.std.proofs.Common.{Vec, get_or, ◌++◌, append_assoc, ◌≡◌, ℕ, zero, suc, pos, ◌+◌, ◌-◌, ◌<◌, ◌⊎◌, inl, inr, Bool, false, Result, Ok, Err, is_ok, OnOk, IsTrue, List, [], ◌∷◌, map, length, take, refl, sym, ap, subst, ◌∙◌, arith, Less, Equal}
use Rattle.std.proofs.lemmas.Bool.Decides.{nat_tests}
use Rattle.std.proofs.lemmas.List.{take-map, length-map, length-take-le}
use Rattle.sqlite_value.specs.declared.value.Value.TheVariants.{Int}
use Rattle.sqlite_value.specs.Order.{Row, value_cmp}
use Rattle.sqlite_value.proofs.OrderLemmas.{value_cmp-Int}
use Rattle.sqlite_trees.specs.declared.store.Shape.{Shape}
use Rattle.sqlite_trees.specs.Tree.{without_rowid, put_row}
use Rattle.sqlite_trees.specs.View.{View, IsClean, SetsTree, KeepsSchema, IsRolledBack, Commits}
use Rattle.std.proofs.lemmas.List.{append-nil}
use Rattle.std.specs.declared.alloc.Global.{Global}
use Rattle.ups_journal.specs.declared.record.Record.{Record}
use Rattle.ups_store.specs.Rewriting.{records_of}
use Rattle.ups_store.specs.declared.request.StoredRequest.{StoredRequest}
use Rattle.ups_store.specs.Rows.{stored_in_run, request_row, rows_from, request_in, requests_in, table_in, IsNumbered}
use Rattle.ups_store.specs.Held.{HasTables, HasTable, IsAdding, Holds}
use Rattle.ups_store.proofs.Tables.{IsLow, low_from, own_set, others_set, table_beside, low_not_runs, requests_at, numbered_at}
use Rattle.ups_store.proofs.Steps.{sound_open, open_clean}

rows_take : (n number : ℕ) (rs : List StoredRequest) → take n (rows_from number rs) ≡ rows_from number (take n rs)
rows_take zero number rs = refl
rows_take (suc n) number [] = refl
rows_take (suc n) number (r ∷ rs) = ap (λ (rows : List Row). request_row (pos number) r ∷ rows) (rows_take n (suc number) rs)

-- without the row with the last number all others are left
without_last : (n number : ℕ) (rs : List StoredRequest) → length rs ≡ n + 1 → without_rowid (pos (number + n)) (rows_from number rs) ≡ rows_from number (take n rs)
without_last n number [] h = absurd (omega (arith, h))
without_last zero number (r ∷ []) h =
    let same : value_cmp (Int (pos number)) (Int (pos (number + zero))) ≡ Equal = value_cmp-Int _ _ ∙ grind (arith, nat_tests) in
    rw same refl
without_last zero number (r ∷ s ∷ rs) h = absurd (omega (arith, h))
without_last (suc n) number (r ∷ rs) h =
    let below : value_cmp (Int (pos number)) (Int (pos (number + suc n))) ≡ Less = value_cmp-Int _ _ ∙ grind (arith, nat_tests) in
    let at : number + suc n ≡ suc number + n = omega arith in
    rw below (ap (λ (k : ℕ). request_row (pos number) r ∷ without_rowid (pos k) (rows_from (suc number) rs)) at ∙ ap (λ (rows : List Row). request_row (pos number) r ∷ rows) (without_last n (suc number) rs (omega (arith, h))))

-- and these are the first rows
first_rows : (n : ℕ) (rows : List Row) → IsNumbered rows → length rows ≡ n + 1 → without_rowid (pos (n + 1)) rows ≡ take n rows
first_rows n rows numbered counted =
    let rs = map request_in rows in
    let at : n + 1 ≡ 1 + n = omega arith in
    ap (λ (k : ℕ). without_rowid (pos k) rows) at ∙ ap (without_rowid (pos (1 + n))) numbered ∙ without_last n 1 rs (length-map rows request_in ∙ counted) ∙ sym (rows_take n 1 rs) ∙ ap (take n) (sym numbered)

numbered_first : (n : ℕ) (rows : List Row) → IsNumbered rows → IsNumbered (take n rows)
numbered_first n rows numbered = ap (take n) numbered ∙ rows_take n 1 (map request_in rows) ∙ ap (rows_from 1) (take-map request_in n rows)

-- a delete of the last row
pub shortens : (old new : View) (t count : ℕ) → 0 < count → IsAdding old t count → SetsTree old new t (without_rowid (pos count)) → IsAdding new t (count - 1)
shortens old new t count some was sets =
    let n = count - 1 in
    let at : count ≡ n + 1 = omega (arith, some) in
    let rows : new.trees t ≡ take n (old.trees t) = own_set old new t _ sets ∙ ap (λ (k : ℕ). without_rowid (pos k) (old.trees t)) at ∙ first_rows n (old.trees t) was.numbered (was.counted ∙ at) in
    record {
      sound = ap (λ (v : View). v.is_broken) sets.is ∙ was.sound;
      numbered = subst IsNumbered (sym rows) (numbered_first n (old.trees t) was.numbered);
      counted = ap length rows ∙ length-take-le n (old.trees t) (omega (arith, was.counted, at));
    }

pub none_said : (rows : List Row) → length rows ≡ 0 → map request_in rows ≡ []
none_said [] h = refl
none_said (r ∷ rows) h = absurd (omega (arith, h))

pub tables_as : (old new : View) → KeepsSchema old new → HasTables old → HasTables new
tables_as old new schema tables = record {
  requests = ap (λ (f : ℕ → Shape). f 0) schema.shape ∙ tables.requests;
  runs = ap (λ (f : ℕ → Shape). f 1) schema.shape ∙ tables.runs;
  alike = schema.committed_shape ∙ tables.alike ∙ sym schema.shape;
  numbered = schema.numbered ∙ tables.numbered;
  unreal = ap (λ (f : ℕ → ℕ). f 1) schema.reals ∙ tables.unreal;
  first_unreal = ap (λ (f : ℕ → ℕ). f 0) schema.reals ∙ tables.first_unreal;
  last_unreal = ap (λ (f : ℕ → ℕ). f 2) schema.reals ∙ tables.last_unreal;
  typed = schema.committed_reals ∙ tables.typed ∙ sym schema.reals;
}

pub table_as : (old new : View) (t : ℕ) → KeepsSchema old new → HasTable old t → HasTable new t
table_as old new t schema has = record { tables = tables_as old new schema has.tables; shaped = ap (λ (f : ℕ → Shape). f t) schema.shape ∙ has.shaped }

pub rolled_tables : (old new : View) → IsRolledBack old new → HasTables old → HasTables new
rolled_tables old new back tables =
    let shape = back.shape (sym tables.alike) in
    let reals = back.reals (sym tables.typed) in
    record {
      requests = ap (λ (f : ℕ → Shape). f 0) shape ∙ tables.requests;
      runs = ap (λ (f : ℕ → Shape). f 1) shape ∙ tables.runs;
      alike = back.committed_shape ∙ tables.alike ∙ sym shape;
      numbered = back.numbered ∙ tables.numbered;
      unreal = ap (λ (f : ℕ → ℕ). f 1) reals ∙ tables.unreal;
      first_unreal = ap (λ (f : ℕ → ℕ). f 0) reals ∙ tables.first_unreal;
      last_unreal = ap (λ (f : ℕ → ℕ). f 2) reals ∙ tables.last_unreal;
      typed = back.committed_reals ∙ tables.typed ∙ sym reals;
    }

pub committed_tables : (old new : View) → Commits old new → HasTables old → HasTables new
committed_tables old new done tables =
    let is = done.is in
    record {
      requests = ap (λ (v : View). v.shape 0) is ∙ tables.requests;
      runs = ap (λ (v : View). v.shape 1) is ∙ tables.runs;
      alike = ap (λ (v : View). v.committed_shape) is ∙ sym (ap (λ (v : View). v.shape) is);
      numbered = ap (λ (v : View). v.is_numbered) is ∙ tables.numbered;
      unreal = ap (λ (v : View). v.reals 1) is ∙ tables.unreal;
      first_unreal = ap (λ (v : View). v.reals 0) is ∙ tables.first_unreal;
      last_unreal = ap (λ (v : View). v.reals 2) is ∙ tables.last_unreal;
      typed = ap (λ (v : View). v.committed_reals) is ∙ sym (ap (λ (v : View). v.reals) is);
    }

-- a row of the runs that was put, where the store is sound behind it
pub sets_run : (old mid : View) (row : Row) → (mid.is_clean ≡ false → mid.is_open ≡ false) → (mid.is_open ≡ false → IsTrue mid.is_broken) → (IsClean mid → SetsTree old mid 1 (put_row row)) → mid.is_broken ≡ false → SetsTree old mid 1 (put_row row)
sets_run old mid row shut broken sets sound = sets (open_clean mid shut (sound_open mid broken sound))

pub run_leaves : (old mid : View) (t : ℕ) (row : Row) → IsLow t → SetsTree old mid 1 (put_row row) → mid.trees t ≡ old.trees t
run_leaves old mid t row low sets = others_set old mid 1 _ sets t (low_not_runs t low)

pub run_is_put : (old mid : View) (row : Row) → SetsTree old mid 1 (put_row row) → mid.trees 1 ≡ put_row row (old.trees 1)
run_is_put old mid row sets = ap (λ (v : View). v.trees 1) sets.is

-- the requests beside a row of the runs
pub requests_beside : (old mid : View) (t : ℕ) (row : Row) → table_in old.trees ≡ t → SetsTree old mid 1 (put_row row) → requests_in mid.trees ≡ requests_in old.trees
requests_beside old mid t row tabled sets =
    let now : table_in mid.trees ≡ t = table_beside old mid (others_set old mid 1 _ sets) ∙ tabled in
    requests_at mid.trees t now ∙ ap (map request_in) (run_leaves old mid t row (low_from _ t tabled) sets) ∙ sym (requests_at old.trees t tabled)

pub numbered_beside : (old mid : View) (t count : ℕ) (row : Row) → table_in old.trees ≡ t → IsAdding old t count → SetsTree old mid 1 (put_row row) → IsNumbered (mid.trees (table_in mid.trees))
numbered_beside old mid t count row tabled was sets =
    let now : table_in mid.trees ≡ t = table_beside old mid (others_set old mid 1 _ sets) ∙ tabled in
    numbered_at mid.trees t now (subst IsNumbered (sym (run_leaves old mid t row (low_from _ t tabled) sets)) was.numbered)

pub all_committed : (old new : View) → Commits old new → new.committed ≡ old.trees
all_committed old new done = ap (λ (v : View). v.committed) done.is

pub committed_is : (old new : View) (t : ℕ) → Commits old new → new.committed t ≡ old.trees t
committed_is old new t done = ap (λ (v : View). v.committed t) done.is

pub committed_open : (old new : View) → Commits old new → new.is_open ≡ old.is_open
committed_open old new done = ap (λ (v : View). v.is_open) done.is

-- the requests of a transaction are those of the store once it is committed, and a row of the runs leaves them
pub held_replaced : (old mid new : View) (row : Row) (t count : ℕ) → HasTable old t → table_in old.trees ≡ t → IsAdding old t count → KeepsSchema old mid → SetsTree old mid 1 (put_row row) → Commits mid new → Holds new t count
held_replaced old mid new row t count has tabled was schema sets done =
    let is = done.is in
    let rows : new.trees t ≡ old.trees t = ap (λ (v : View). v.trees t) is ∙ run_leaves old mid t row (low_from _ t tabled) sets in
    record {
      has = record { tables = committed_tables mid new done (tables_as old mid schema has.tables); shaped = ap (λ (v : View). v.shape t) is ∙ ap (λ (f : ℕ → Shape). f t) schema.shape ∙ has.shaped };
      tabled = ap (λ (v : View). table_in v.trees) is ∙ table_beside old mid (others_set old mid 1 _ sets) ∙ tabled;
      adding = record {
        sound = ap (λ (v : View). v.is_broken) is ∙ done.sound;
        numbered = subst IsNumbered (sym rows) was.numbered;
        counted = ap length rows ∙ was.counted;
      };
      same = ap (λ (v : View). v.trees) is ∙ sym (ap (λ (v : View). v.committed) is);
    }

pub both_ways : {A B C D : Type 0} → (A → C) → (B → D) → A ⊎ B → C ⊎ D
both_ways f h (inl a) = inl (f a)
both_ways f h (inr b) = inr (h b)

pub swap : {A B : Type 0} → A ⊎ B → B ⊎ A
swap (inl a) = inr a
swap (inr b) = inl b

pub both_ok : {T E A B C : Type 0} (r : Result T E) → (A → B → C) → OnOk r A → OnOk r B → OnOk r C
both_ok (Ok x) f a b = f a b
both_ok (Err e) f a b = tt

-- what is found after a call that says whether it was done
pub told : {T E A B : Type 0} (r : Result T E) (done : Bool) → done ≡ is_ok r → OnOk r A → B ⊎ A → A ⊎ ((done ≡ false) × B)
told r done is ok (inr a) = inl a
told (Ok x) done is ok (inl b) = inl ok
told (Err e) done is ok (inl b) = inr (is, b)

-- the records of groups with one more group
records_more : (n : ℕ) (groups : List (Vec (Record Global) Global)) (x : Vec (Record Global) Global) → n < length groups → x ≡ get_or groups n x → records_of (take (n + 1) groups) ≡ records_of (take n groups) ++ x.items
records_more n [] x within is = absurd (omega (arith, within))
records_more zero (y ∷ groups) x within is = append-nil y.items ∙ ap (λ (v : Vec (Record Global) Global). v.items) (sym is)
records_more (suc n) (y ∷ groups) x within is =
    let at : suc n + 1 ≡ suc (n + 1) = omega arith in
    ap (λ (k : ℕ). records_of (take k (y ∷ groups))) at ∙ ap (λ (rs : List (Record Global)). y.items ++ rs) (records_more n groups x (omega (arith, within)) is) ∙ sym (append_assoc y.items (records_of (take n groups)) x.items)

map-append : {X Y : Type 0} (f : X → Y) (xs ys : List X) → map f (xs ++ ys) ≡ map f xs ++ map f ys
map-append f [] ys = refl
map-append f (x ∷ xs) ys = ap (λ zs. f x ∷ zs) (map-append f xs ys)

pub entered_more : (run n : ℕ) (groups : List (Vec (Record Global) Global)) (x : Vec (Record Global) Global) → n < length groups → x ≡ get_or groups n x
    → map (stored_in_run run) (records_of (take (n + 1) groups)) ≡ map (stored_in_run run) (records_of (take n groups)) ++ map (stored_in_run run) x.items
entered_more run n groups x within is = ap (map (stored_in_run run)) (records_more n groups x within is) ∙ map-append (stored_in_run run) (records_of (take n groups)) x.items
