-- The rows of a list of requests.
use Rattle.std.proofs.Common.{◌≡◌, ℕ, zero, suc, pos, ◌+◌, ◌<◌, List, [], ◌∷◌, ◌++◌, length, drop, refl, ap, ◌∙◌, arith, Less}
use Rattle.std.proofs.lemmas.Bool.Decides.{nat_tests}
use Rattle.sqlite_value.specs.declared.value.Value.TheVariants.{Int}
use Rattle.sqlite_value.specs.Order.{Row, value_cmp}
use Rattle.sqlite_value.proofs.OrderLemmas.{value_cmp-Int}
use Rattle.sqlite_trees.specs.Tree.{put_row}
use Rattle.ups_store.specs.declared.request.StoredRequest.{StoredRequest}
use Rattle.ups_store.specs.Rows.{request_row, rows_from}

pub rows_length : (number : ℕ) (rs : List StoredRequest) → length (rows_from number rs) ≡ length rs
rows_length number [] = refl
rows_length number (r ∷ rs) = rw (rows_length (suc number) rs) refl

pub rows_push : (number : ℕ) (rs : List StoredRequest) (r : StoredRequest) → rows_from number rs ++ request_row (pos (number + length rs)) r ∷ [] ≡ rows_from number (rs ++ r ∷ [])
rows_push number [] r = ap (λ (n : ℕ). request_row (pos n) r ∷ []) (omega arith)
rows_push number (x ∷ rs) r =
    let at : number + length (x ∷ rs) ≡ suc number + length rs = omega arith in
    ap (λ (n : ℕ). request_row (pos number) x ∷ (rows_from (suc number) rs ++ request_row (pos n) r ∷ [])) at ∙ ap (λ (rows : List Row). request_row (pos number) x ∷ rows) (rows_push (suc number) rs r)

pub rows_drop : (n number : ℕ) (rs : List StoredRequest) → drop n (rows_from number rs) ≡ rows_from (number + n) (drop n rs)
rows_drop zero number rs = ap (λ (k : ℕ). rows_from k rs) (omega arith)
rows_drop (suc n) number [] = refl
rows_drop (suc n) number (r ∷ rs) = rows_drop n (suc number) rs ∙ ap (λ (k : ℕ). rows_from k (drop n rs)) (omega arith)

-- the row with the next number goes behind the others
pub put_last : (number : ℕ) (rs : List StoredRequest) (r : StoredRequest) → put_row (request_row (pos (number + length rs)) r) (rows_from number rs) ≡ rows_from number (rs ++ r ∷ [])
put_last number [] r = ap (λ (n : ℕ). request_row (pos n) r ∷ []) (omega arith)
put_last number (x ∷ rs) r =
    let at : number + length (x ∷ rs) ≡ suc number + length rs = omega arith in
    ap (λ (n : ℕ). put_row (request_row (pos n) r) (rows_from number (x ∷ rs))) at ∙ go (suc number + length rs) (omega arith) (put_last (suc number) rs r)
  where
    go : (n : ℕ) → number < n → put_row (request_row (pos n) r) (rows_from (suc number) rs) ≡ rows_from (suc number) (rs ++ r ∷ []) → put_row (request_row (pos n) r) (rows_from number (x ∷ rs)) ≡ rows_from number ((x ∷ rs) ++ r ∷ [])
    go n low on =
        let below : value_cmp (Int (pos number)) (Int (pos n)) ≡ Less = value_cmp-Int _ _ ∙ grind (arith, nat_tests, low) in
        rw below (ap (λ (rows : List Row). request_row (pos number) x ∷ rows) on)
