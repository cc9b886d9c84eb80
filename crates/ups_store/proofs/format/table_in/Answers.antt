use Rattle.std.proofs.Common.{◌≡◌, ◌+◌, ◌<◌, ℕ, suc, zero, pos, true, false, drop, length, get_or, find, unwrap_or, Option, Some, List, [], ◌∷◌, refl, ap, sym, ◌∙◌, arith}
use Rattle.sqlite_value.specs.Order.{Row}
use Rattle.sqlite_trees.specs.Tree.{has_rowid}
use Rattle.ups_store.specs.Rows.{table_by, table_listed}
use Rattle.ups_store.proofs.format.table_in.Goals as goal

behind : (n : ℕ) (rows : List Row) (x : Row) → n < length rows → x ≡ get_or rows n x → drop n rows ≡ x ∷ drop (n + 1) rows
behind n [] x within is = absurd (omega (arith, within))
behind zero (y ∷ rows) x within is = ap (λ (r : Row). r ∷ rows) (sym is)
behind (suc n) (y ∷ rows) x within is =
    let at : suc n + 1 ≡ suc (n + 1) = omega arith in
    behind n rows x (omega (arith, within)) is ∙ ap (λ (k : ℕ). x ∷ drop k (y ∷ rows)) (sym at)

found : (n : ℕ) (rows : List Row) (x : Row) → n < length rows → x ≡ get_or rows n x → find (has_rowid (pos 1)) rows ≡ find (has_rowid (pos 1)) (drop n rows) → has_rowid (pos 1) x ≡ true → table_by x ≡ table_listed rows
unfolding table_listed
found n rows x within is before one =
    let here : find (has_rowid (pos 1)) (x ∷ drop (n + 1) rows) ≡ Some x = rw one refl in
    sym (ap (λ (found : Option Row). table_by (unwrap_or found [])) (before ∙ ap (find (has_rowid (pos 1))) (behind n rows x within is) ∙ here))

none : (n : ℕ) (rows : List Row) → length rows ≡ n → find (has_rowid (pos 1)) rows ≡ find (has_rowid (pos 1)) (drop n rows) → 0 ≡ table_listed rows
unfolding table_listed
none n rows all before = sym (ap (λ (found : Option Row). table_by (unwrap_or found [])) (before ∙ ap (find (has_rowid (pos 1))) (dropped n rows all)))
  where
    dropped : (n : ℕ) (rows : List Row) → length rows ≡ n → drop n rows ≡ []
    dropped n [] all = drop_none n
      where
        drop_none : (n : ℕ) → drop n (let l : List Row = [] in l) ≡ []
        drop_none zero = refl
        drop_none (suc n) = refl
    dropped zero (x ∷ rows) all = absurd (omega (arith, all))
    dropped (suc n) (x ∷ rows) all = dropped n rows (omega (arith, all))

pub loop-at-preserved : goal.loop-at-preserved
loop-at-preserved c =
    let rows = c.args.rows.now in
    let x = c.index-rows-at.result in
    let other : has_rowid (pos 1) x ≡ false = sym c.is_first.ensures ∙ c.if-is_first.false in
    c.loop-at.invariant ∙ ap (find (has_rowid (pos 1))) (behind c.loop-at.at rows x (omega arith) c.index-rows-at.is) ∙ rw other refl

pub returns-then-is_first : goal.returns-then-is_first
returns-then-is_first c = c.table_by.ensures ∙ found c.loop-at.at c.args.rows.now c.index-rows-at.result (omega arith) c.index-rows-at.is c.loop-at.invariant (sym c.is_first.ensures ∙ c.if-is_first.true)

pub returns : goal.returns
returns c = none c.loop-at.at c.args.rows.now (omega arith) c.loop-at.invariant
