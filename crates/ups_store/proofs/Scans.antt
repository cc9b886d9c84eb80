-- What a scan of the requests has given.
use Rattle.std.proofs.Common.{◌≡◌, ◌≢◌, IsTrue, true≢false, ℕ, zero, suc, pos, ◌+◌, ◌≤◌, List, [], ◌∷◌, ◌++◌, map, length, take, drop, Some, refl, sym, ap, subst, ◌∙◌, arith}
use Rattle.std.proofs.lemmas.List.{drop-map, length-take-le, length-drop, length-map, take_all}
use Rattle.sqlite_value.specs.Order.{Row}
use Rattle.sqlite_value.specs.declared.keys.Order.{Order}
use Rattle.sqlite_trees.specs.Tree.{Trees, from_key, sought, order_of}
use Rattle.sqlite_trees.specs.declared.store.Direction.TheVariants.{Forward}
use Rattle.sqlite_trees.specs.declared.store.Shape.TheVariants.{Table}
use Rattle.sqlite_trees.specs.View.{View, with_cursor}
use Rattle.ups_store.specs.declared.request.StoredRequest.{StoredRequest}
use Rattle.ups_store.specs.declared.reading.Taken.TheVariants.{End, Other, One}
use Rattle.ups_store.specs.Rows.{request_row, rows_from, request_in, requests_in_tree, requests_in, table_in, IsNumbered}
use Rattle.ups_store.specs.Held.{IsFresh, HasGiven, Holds}
use Rattle.ups_store.proofs.Tables.{requests_at}
use Rattle.ups_store.specs.declared.reading.Phase.{Phase}
use Rattle.ups_store.specs.declared.reading.Phase.TheVariants.{Fresh, Reading, Ended, Failed}
use Rattle.ups_store.specs.Shown.{is_ended}
use Rattle.ups_store.specs.Taken.{TakesNext}
use Rattle.ups_store.proofs.Rows.{rows_push, rows_drop}

pub from_start : (o : Order) (rows : List Row) → from_key o [] rows ≡ rows
from_start o [] = refl
from_start o ([] ∷ rows) = refl
from_start o ((v ∷ row) ∷ rows) = refl

-- a cursor that was placed at the start has all rows left
pub placed : (old new : View) (t : ℕ) (key : Row) → key ≡ [] → new ≡ with_cursor old 0 (sought (order_of (old.shape t)) Forward key (old.trees t)) → new.cursors 0 ≡ Some (new.trees t)
placed old new t key none is =
    let at : new.cursors 0 ≡ Some (from_key (order_of (old.shape t)) key (old.trees t)) = ap (λ (v : View). v.cursors 0) is in
    let trees : new.trees t ≡ old.trees t = ap (λ (v : View). v.trees t) is in
    at ∙ ap (λ (k : Row). Some (from_key (order_of (old.shape t)) k (old.trees t))) none ∙ ap Some (from_start (order_of (old.shape t)) (old.trees t)) ∙ ap Some (sym trees)

pub some_same : {X : Type 0} {a b : X} → Some a ≡ Some b → a ≡ b
some_same e = cc

-- the element behind so many
pub record IsNext {X : Type 0} (n : ℕ) (xs : List X) (x : X) (rest : List X) : Type 0 where
  pub within : n + 1 ≤ length xs
  pub left : drop (n + 1) xs ≡ rest
  pub taken : take (n + 1) xs ≡ take n xs ++ x ∷ []

next_in : {X : Type 0} (n : ℕ) (xs : List X) (x : X) (left : List X) → drop n xs ≡ x ∷ left → (suc n ≤ length xs) × (drop (suc n) xs ≡ left) × (take (suc n) xs ≡ take n xs ++ x ∷ [])
next_in zero [] x left h = absurd (cc)
next_in zero (y ∷ ys) x left h =
    let first : y ≡ x = cc in
    let rest : ys ≡ left = cc in
    (omega arith, rest, ap (λ z. z ∷ []) first)
next_in (suc n) [] x left h = absurd (cc)
next_in (suc n) (y ∷ ys) x left h =
    let r = next_in n ys x left h in
    (omega (arith, r.0), r.1, ap (λ zs. y ∷ zs) r.2)

pub is_next : {X : Type 0} (n : ℕ) (xs : List X) (x : X) (left : List X) → drop n xs ≡ x ∷ left → IsNext n xs x left
is_next n xs x left h =
    let r = next_in n xs x left h in
    let one : suc n ≡ n + 1 = omega arith in
    record {
      within = omega (arith, r.0);
      left = subst (λ (k : ℕ). drop k xs ≡ left) one r.1;
      taken = subst (λ (k : ℕ). take k xs ≡ take n xs ++ x ∷ []) one r.2;
    }

-- a move of the cursor keeps the rest
pub fresh_as : (old new : View) → new ≡ record old { cursors = new.cursors } → IsFresh old → IsFresh new
fresh_as old new is fresh = record {
  tables = record {
    requests = ap (λ (v : View). v.shape 0) is ∙ fresh.tables.requests;
    runs = ap (λ (v : View). v.shape 1) is ∙ fresh.tables.runs;
    alike = ap (λ (v : View). v.committed_shape) is ∙ fresh.tables.alike ∙ sym (ap (λ (v : View). v.shape) is);
    numbered = ap (λ (v : View). v.is_numbered) is ∙ fresh.tables.numbered;
    unreal = ap (λ (v : View). v.reals 1) is ∙ fresh.tables.unreal;
    first_unreal = ap (λ (v : View). v.reals 0) is ∙ fresh.tables.first_unreal;
    last_unreal = ap (λ (v : View). v.reals 2) is ∙ fresh.tables.last_unreal;
    typed = ap (λ (v : View). v.committed_reals) is ∙ fresh.tables.typed ∙ sym (ap (λ (v : View). v.reals) is);
  };
  shaped = ap (λ (v : View). v.shape (table_in v.trees)) is ∙ fresh.shaped;
  sound = ap (λ (v : View). v.is_broken) is ∙ fresh.sound;
  same = ap (λ (v : View). v.trees) is ∙ fresh.same ∙ sym (ap (λ (v : View). v.committed) is);
}

pub given_as : (old new : View) (t count : ℕ) → new ≡ record old { cursors = new.cursors } → HasGiven old t count → HasGiven new t count
given_as old new t count is has =
    let trees : new.trees ≡ old.trees = ap (λ (v : View). v.trees) is in
    record {
      fresh = fresh_as old new is has.fresh;
      tabled = ap table_in trees ∙ has.tabled;
      within = subst (λ (db : Trees). count ≤ length (db t)) (sym trees) has.within;
      rows = subst (λ (db : Trees). take count (db t) ≡ rows_from 1 (take count (requests_in_tree db t))) (sym trees) has.rows;
    }

-- the next row is the request behind those that were given
given_next : (rows : List Row) (count : ℕ) (row : Row) (left : List Row) (request : StoredRequest) → take count rows ≡ rows_from 1 (take count (map request_in rows)) → count ≤ length rows → drop count rows ≡ row ∷ left
    → row ≡ request_row (pos (count + 1)) request → request_in row ≡ request
    → (take (count + 1) (map request_in rows) ≡ take count (map request_in rows) ++ request ∷ []) × (take (count + 1) rows ≡ rows_from 1 (take (count + 1) (map request_in rows)))
given_next rows count row left request has within at is says =
    let all = map request_in rows in
    let next = is_next count rows row left at in
    let said = is_next count all (request_in row) (map request_in left) (drop-map request_in count rows ∙ ap (map request_in) at) in
    let requests : take (count + 1) all ≡ take count all ++ request ∷ [] = said.taken ∙ ap (λ (r : StoredRequest). take count all ++ r ∷ []) says in
    let many : length (take count all) ≡ count = length-take-le count all (omega (arith, within, length-map rows request_in)) in
    let number : count + 1 ≡ 1 + length (take count all) = omega (arith, many) in (
      requests,
      next.taken ∙ ap (λ (r : List Row). r ++ row ∷ []) has ∙ ap (λ (r : Row). rows_from 1 (take count all) ++ r ∷ []) is ∙ ap (λ (n : ℕ). rows_from 1 (take count all) ++ request_row (pos n) request ∷ []) number
          ∙ rows_push 1 (take count all) request ∙ ap (rows_from 1) (sym requests),
    )

pub record GivesNext (old new : View) (t count : ℕ) (request : StoredRequest) : Type 0 where
  pub given : HasGiven new t (count + 1)
  pub left : new.cursors 0 ≡ Some (drop (count + 1) (new.trees t))
  pub more : take (count + 1) (requests_in new.committed) ≡ take count (requests_in old.committed) ++ request ∷ []

pub gives_next : (old new : View) (t count : ℕ) (request : StoredRequest) → HasGiven old t count → old.cursors 0 ≡ Some (drop count (old.trees t)) → TakesNext old new count (One request) → GivesNext old new t count request
gives_next old new t count request has left (row, is, says, steps) =
    let rows = old.trees t in
    let at : drop count rows ≡ row ∷ steps.left = some_same (sym left ∙ steps.before) in
    let next = is_next count rows row steps.left at in
    let both = given_next rows count row steps.left request has.rows has.within at is says in
    let trees : new.trees ≡ old.trees = ap (λ (v : View). v.trees) steps.same in
    let was = given_as old new t count steps.same has in
    let now : requests_in new.committed ≡ map request_in rows = ap requests_in (sym was.fresh.same ∙ trees) ∙ requests_at old.trees t has.tabled in
    let before : map request_in rows ≡ requests_in old.committed = sym (requests_at old.trees t has.tabled) ∙ ap requests_in has.fresh.same in
    record {
      given = record {
        fresh = was.fresh;
        tabled = was.tabled;
        within = subst (λ (db : Trees). count + 1 ≤ length (db t)) (sym trees) next.within;
        rows = subst (λ (db : Trees). take (count + 1) (db t) ≡ rows_from 1 (take (count + 1) (requests_in_tree db t))) (sym trees) both.1;
      };
      left = steps.after ∙ ap Some (sym next.left) ∙ ap (λ (db : Trees). Some (drop (count + 1) (db t))) (sym trees);
      more = ap (take (count + 1)) now ∙ both.0 ∙ ap (λ (rs : List StoredRequest). take count rs ++ request ∷ []) before;
    }

-- at the end all have been given
dropped_all : {X : Type 0} (n : ℕ) (xs : List X) → drop n xs ≡ [] → length xs ≤ n
dropped_all n xs h = omega (arith, length-drop n xs, ap length h)

pub ends : (old new : View) (t count : ℕ) → HasGiven old t count → old.cursors 0 ≡ Some (drop count (old.trees t)) → TakesNext old new count End → HasGiven new t count × (length (new.trees t) ≡ count)
ends old new t count has left (none, is) =
    let at : drop count (old.trees t) ≡ [] = some_same (sym left ∙ none) in
    let trees : new.trees ≡ old.trees = ap (λ (v : View). v.trees) is in
    (given_as old new t count is has, ap (λ (db : Trees). length (db t)) trees ∙ omega (arith, dropped_all count (old.trees t) at, has.within))

-- a row that is not the request with its place as its number
pub not_numbered : (old new : View) (t count : ℕ) → HasGiven old t count → old.cursors 0 ≡ Some (drop count (old.trees t)) → TakesNext old new count Other → IsNumbered (old.committed (table_in old.committed)) → ⊥
not_numbered old new t count has left (row, other, steps) known =
    let rows = old.committed t in
    let tabled : table_in old.committed ≡ t = ap table_in (sym has.fresh.same) ∙ has.tabled in
    let numbered : IsNumbered rows = subst (λ (k : ℕ). IsNumbered (old.committed k)) tabled known in
    let at : drop count rows ≡ row ∷ steps.left = ap (λ (db : Trees). drop count (db t)) (sym has.fresh.same) ∙ some_same (sym left ∙ steps.before) in
    let said : drop count (map request_in rows) ≡ request_in row ∷ map request_in steps.left = drop-map request_in count rows ∙ ap (map request_in) at in
    let all : row ∷ steps.left ≡ rows_from (1 + count) (request_in row ∷ map request_in steps.left) = sym at ∙ ap (drop count) numbered ∙ rows_drop count 1 (map request_in rows) ∙ ap (rows_from (1 + count)) said in
    let first : row ≡ request_row (pos (1 + count)) (request_in row) = cc in
    other (first ∙ ap (λ (n : ℕ). request_row (pos n) (request_in row)) (omega arith))

-- once all have been given, they are requests, numbered from 1
pub held_ended : (v : View) (t count : ℕ) → HasGiven v t count → length (v.trees t) ≡ count → Holds v t count
held_ended v t count has all =
    let rows : take count (v.trees t) ≡ v.trees t = take_all count (v.trees t) (omega (arith, all)) in
    let said : take count (requests_in_tree v.trees t) ≡ requests_in_tree v.trees t = take_all count (requests_in_tree v.trees t) (omega (arith, length-map (v.trees t) request_in, all)) in
    record { has = record { tables = has.fresh.tables; shaped = subst (λ (k : ℕ). v.shape k ≡ Table) has.tabled has.fresh.shaped }; tabled = has.tabled; adding = record { sound = has.fresh.sound; numbered = sym rows ∙ has.rows ∙ ap (rows_from 1) said; counted = all }; same = has.fresh.same }

pub ended_is : (phase : Phase) → IsTrue (is_ended phase) → phase ≡ Ended
ended_is Fresh h = absurd (true≢false (sym h))
ended_is Reading h = absurd (true≢false (sym h))
ended_is Ended h = refl
ended_is Failed h = absurd (true≢false (sym h))

pub ended_not_failed : (phase : Phase) → phase ≡ Ended → phase ≢ Failed
ended_not_failed phase is failed = cc
