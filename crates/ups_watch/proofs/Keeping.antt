-- Whether a peer keeps a step follows from how each is subscribed to it.
use Rattle.std.proofs.Common.{◌≡◌, ◌<◌, ℕ, suc, true, false, cond, ◌||◌, eqb, [], ◌∷◌, Option, None, length, get_or, set, refl, sym, ap, ◌∙◌, arith}
use Rattle.std.proofs.lemmas.List.{length-set}
use Rattle.std.proofs.lemmas.List.Folds.{list_any_at}
use Rattle.ups_life.specs.declared.watching.Subscription.{Subscription}
use Rattle.ups_watch.specs.Rows.{Cells}
use Rattle.ups_watch.specs.Table.{is_locked, is_locked_by_any}
use Rattle.ups_watch.proofs.Cells.{cell_set}

no_cells : (ys : Cells) → ((p : ℕ) → get_or ys p None ≡ None) → is_locked_by_any ys ≡ false
no_cells [] h = refl
no_cells (y ∷ ys) h = ap (λ o. is_locked o || is_locked_by_any ys) (h 0) ∙ no_cells ys (λ p. h (suc p))

pub kept_same : (xs ys : Cells) → ((p : ℕ) → get_or xs p None ≡ get_or ys p None) → is_locked_by_any xs ≡ is_locked_by_any ys
kept_same [] ys h = sym (no_cells ys (λ p. sym (h p)))
kept_same (x ∷ xs) [] h = no_cells (x ∷ xs) h
kept_same (x ∷ xs) (y ∷ ys) h = ap (λ o. is_locked o || is_locked_by_any xs) (h 0) ∙ ap (λ b. is_locked y || b) (kept_same xs ys (λ p. h (suc p)))

-- where the peer at a place is subscribed otherwise, one cell tells
pub kept_here : (cells : Cells) (peer i : ℕ) (how : Option Subscription) → peer < length cells → i < length cells → is_locked (cond (eqb peer i) how (get_or cells i None)) ≡ true → is_locked_by_any (set cells peer how) ≡ true
kept_here cells peer i how within l test =
    let n = length-set cells peer how in
    list_any_at is_locked (set cells peer how) i None (omega (arith, n, l)) (ap is_locked (cell_set cells peer how i within) ∙ test)
