-- The row of a request by its number.
use Rattle.std.proofs.Common.{◌≡◌, ◌≢◌, ℕ, ℤ, zero, suc, pos, ◌+◌, ◌<◌, Bool, true, false, List, [], ◌∷◌, ◌++◌, filter, map, length, take, drop, refl, sym, ap, subst, ◌∙◌, arith, Less, Equal, Greater}
use Rattle.std.proofs.lemmas.Bool.Decides.{nat_tests}
use Rattle.std.proofs.lemmas.List.{drop-map}
use Rattle.sqlite_value.specs.declared.value.Value.TheVariants.{Int}
use Rattle.sqlite_value.specs.Order.{Row, value_cmp}
use Rattle.sqlite_value.proofs.OrderLemmas.{value_cmp-Int}
use Rattle.sqlite_trees.specs.Tree.{has_rowid}
use Rattle.sqlite_trees.specs.View.{View, Finds, OnlyWrites}
use Rattle.ups_store.specs.declared.request.StoredRequest.{StoredRequest}
use Rattle.ups_store.specs.Rows.{request_row, rows_from, request_in, IsNumbered}
use Rattle.ups_store.proofs.Rows.{rows_drop}

-- no row that begins above a number has it
none_above : (m k : ℕ) (rs : List StoredRequest) → m < k → filter (has_rowid (pos m)) (rows_from k rs) ≡ []
none_above m k [] low = refl
none_above m k (r ∷ rs) low =
    let above : value_cmp (Int (pos k)) (Int (pos m)) ≡ Greater = value_cmp-Int _ _ ∙ grind (arith, nat_tests, low) in
    rw above (none_above m (suc k) rs (omega (arith, low)))

-- one row has the number of a place
one_row : (n k : ℕ) (rs rest : List StoredRequest) (q : StoredRequest) → drop n rs ≡ q ∷ rest → filter (has_rowid (pos (k + n))) (rows_from k rs) ≡ request_row (pos (k + n)) q ∷ []
one_row zero k [] rest q h = absurd (cc)
one_row zero k (r ∷ rs) rest q h =
    let first : r ≡ q = cc in
    let at : k ≡ k + zero = omega arith in
    let same : value_cmp (Int (pos k)) (Int (pos (k + zero))) ≡ Equal = value_cmp-Int _ _ ∙ grind (arith, nat_tests) in
    rw same (ap (λ (rows : List Row). request_row (pos k) r ∷ rows) (none_above (k + zero) (suc k) rs (omega arith)) ∙ ap (λ (x : StoredRequest). request_row (pos k) x ∷ []) first ∙ ap (λ (n : ℕ). request_row (pos n) q ∷ []) at)
one_row (suc n) k [] rest q h = absurd (cc)
one_row (suc n) k (r ∷ rs) rest q h =
    let below : value_cmp (Int (pos k)) (Int (pos (k + suc n))) ≡ Less = value_cmp-Int _ _ ∙ grind (arith, nat_tests) in
    let at : k + suc n ≡ suc k + n = omega arith in
    rw below (ap (λ (m : ℕ). filter (has_rowid (pos m)) (rows_from (suc k) rs)) at ∙ one_row n (suc k) rs rest q h ∙ ap (λ (m : ℕ). request_row (pos m) q ∷ []) (sym at))

-- the element at a place
element : {X : Type 0} (n : ℕ) (xs : List X) → n < length xs → (x : X) × (drop n xs ≡ x ∷ drop (n + 1) xs)
element n [] within = absurd (omega (arith, within))
element zero (x ∷ xs) within = (x, refl)
element (suc n) (x ∷ xs) within =
    let at : suc n + 1 ≡ suc (n + 1) = omega arith in
    let rest = element n xs (omega (arith, within)) in
    (rest.0, rest.1 ∙ ap (λ (k : ℕ). rest.0 ∷ drop k (x ∷ xs)) (sym at))

-- the row at a place is that of its request, and the only one with its number
pub record StandsAt (rows : List Row) (n : ℕ) : Type 0 where
  pub row : Row
  pub said : drop n (map request_in rows) ≡ request_in row ∷ drop (n + 1) (map request_in rows)
  pub is : row ≡ request_row (pos (n + 1)) (request_in row)
  pub only : filter (has_rowid (pos (n + 1))) rows ≡ row ∷ []

pub stands_at : (rows : List Row) (n : ℕ) → IsNumbered rows → n < length rows → StandsAt rows n
stands_at rows n numbered within =
    let all = map request_in rows in
    let here = element n rows within in
    let row = here.0 in
    let rest = drop (n + 1) rows in
    let said : drop n all ≡ request_in row ∷ map request_in rest = drop-map request_in n rows ∙ ap (map request_in) here.1 in
    let more : map request_in rest ≡ drop (n + 1) all = sym (drop-map request_in (n + 1) rows) in
    let at : 1 + n ≡ n + 1 = omega arith in
    let counted : row ∷ rest ≡ rows_from (1 + n) (request_in row ∷ map request_in rest) = sym here.1 ∙ ap (drop n) numbered ∙ rows_drop n 1 all ∙ ap (rows_from (1 + n)) said in
    let first : row ≡ request_row (pos (1 + n)) (request_in row) = cc in
    let is : row ≡ request_row (pos (n + 1)) (request_in row) = first ∙ ap (λ (k : ℕ). request_row (pos k) (request_in row)) at in
    let one : filter (has_rowid (pos (1 + n))) rows ≡ request_row (pos (1 + n)) (request_in row) ∷ [] = ap (filter (has_rowid (pos (1 + n)))) numbered ∙ one_row n 1 all (map request_in rest) (request_in row) said in
    record {
      row = row;
      said = said ∙ ap (λ (rs : List StoredRequest). request_in row ∷ rs) more;
      is = is;
      only = ap (λ (k : ℕ). filter (has_rowid (pos k)) rows) (sym at) ∙ one ∙ ap (λ (r : Row). r ∷ []) (sym first);
    }

-- the elements from a place on, with one more
pub taken_more : {X : Type 0} (from n : ℕ) (xs : List X) (x : X) → drop (from + n) xs ≡ x ∷ drop (from + n + 1) xs → take (n + 1) (drop from xs) ≡ take n (drop from xs) ++ x ∷ []
taken_more {X = X} from n xs x here = next n (drop from xs) x (drop (from + n + 1) xs) (sym (drop_twice from n xs) ∙ here)
  where
    drop_nil : (n : ℕ) → drop n (let l : List X = [] in l) ≡ []
    drop_nil zero = refl
    drop_nil (suc n) = refl

    drop_twice : (from n : ℕ) (xs : List X) → drop (from + n) xs ≡ drop n (drop from xs)
    drop_twice zero n xs = ap (λ (k : ℕ). drop k xs) (omega arith)
    drop_twice (suc from) n [] = drop_nil (suc from + n) ∙ sym (drop_nil n)
    drop_twice (suc from) n (x ∷ xs) = let at : suc from + n ≡ suc (from + n) = omega arith in ap (λ (k : ℕ). drop k (x ∷ xs)) at ∙ drop_twice from n xs

    next : (n : ℕ) (xs : List X) (x : X) (rest : List X) → drop n xs ≡ x ∷ rest → take (n + 1) xs ≡ take n xs ++ x ∷ []
    next zero [] x rest h = absurd (cc)
    next zero (y ∷ ys) x rest h = let first : y ≡ x = cc in ap (λ (z : X). z ∷ []) first
    next (suc n) [] x rest h = absurd (cc)
    next (suc n) (y ∷ ys) x rest h = let at : suc n + 1 ≡ suc (n + 1) = omega arith in ap (λ (k : ℕ). take k (y ∷ ys)) at ∙ ap (λ (zs : List X). y ∷ zs) (next n ys x rest h)

-- a look at the number of a place finds its row
found_row : (rows : List Row) (n : ℕ) (number : ℤ) (row : Row) (at : StandsAt rows n) → number ≡ pos (n + 1) → Finds rows number row true → row ≡ at.row
found_row rows n number row at is finds =
    let one : filter (has_rowid number) rows ≡ at.row ∷ [] = ap (λ (z : ℤ). filter (has_rowid z) rows) is ∙ at.only in
    let both : row ∷ [] ≡ at.row ∷ [] = sym finds ∙ one in
    cc

pub not_missing : (rows : List Row) (n : ℕ) (number : ℤ) (row : Row) (found : Bool) → IsNumbered rows → n < length rows → number ≡ pos (n + 1) → Finds rows number row found → found ≡ false → ⊥
not_missing rows n number row found numbered within is finds missing =
    let at = stands_at rows n numbered within in
    let none : filter (has_rowid number) rows ≡ [] = subst (Finds rows number row) missing finds in
    let one : filter (has_rowid number) rows ≡ at.row ∷ [] = ap (λ (z : ℤ). filter (has_rowid z) rows) is ∙ at.only in
    let both : [] ≡ at.row ∷ [] = sym none ∙ one in
    absurd (cc)

pub says_place : (rows : List Row) (n : ℕ) (number : ℤ) (row : Row) (found : Bool) (r : StoredRequest) → IsNumbered rows → n < length rows → number ≡ pos (n + 1) → Finds rows number row found → found ≡ true → request_in row ≡ r
    → drop n (map request_in rows) ≡ r ∷ drop (n + 1) (map request_in rows)
says_place rows n number row found r numbered within is finds there says =
    let at = stands_at rows n numbered within in
    let same = found_row rows n number row at is (subst (Finds rows number row) there finds) in
    at.said ∙ ap (λ (q : StoredRequest). q ∷ drop (n + 1) (map request_in rows)) (ap request_in (sym same) ∙ says)

pub not_other : (rows : List Row) (n : ℕ) (number : ℤ) (row : Row) (found : Bool) → IsNumbered rows → n < length rows → number ≡ pos (n + 1) → Finds rows number row found → found ≡ true → row ≢ request_row number (request_in row) → ⊥
not_other rows n number row found numbered within is finds there other =
    let at = stands_at rows n numbered within in
    let same = found_row rows n number row at is (subst (Finds rows number row) there finds) in
    other (same ∙ at.is ∙ ap (λ (r : Row). request_row (pos (n + 1)) (request_in r)) (sym same) ∙ ap (λ (z : ℤ). request_row z (request_in row)) (sym is))

-- a look leaves what is committed
pub looks_only : (old new : View) → new ≡ old → OnlyWrites old new
looks_only old new is = is ∙ ap (λ (v : View). record old { trees = v.trees; cursors = v.cursors }) (sym is)
