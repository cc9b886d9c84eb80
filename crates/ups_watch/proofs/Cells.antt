-- What is known, and of which width the rows are, after a row is put.
use Rattle.std.proofs.Common.{◌≡◌, ◌<◌, ◌≤◌, ℕ, Bool, true, false, cond, eqb, List, [], map, Option, None, Some, length, get_or, set, refl, sym, ap, ◌∙◌, subst, inl, inr, eqb-true, eq-eqb, ne_eqb}
use Rattle.std.specs.Prelude.{is_some, IfSome}
use Rattle.std.specs.Option.{option_map}
use Rattle.std.specs.Map.{lookup}
use Rattle.std.specs.Str.{bytes_eq}
use Rattle.std.proofs.lemmas.Slice.Eq.{bytes_eq-Decides}
use Rattle.std.proofs.lemmas.Bool.{cases_eq, cases_lt}
use Rattle.std.proofs.lemmas.Grind.{get_or-set_at}
use Rattle.std.proofs.lemmas.List.{get_or-set_other, get_or_past, set_past, length-set}
use Rattle.std.proofs.lemmas.Map.Made.{lookup-map_values}
use Rattle.ups_life.specs.declared.watching.Subscription.{Subscription}
use Rattle.std.proofs.Common.{arith}
use Rattle.ups_watch.specs.Rows.{Cells, cells_in, cell, watching_in, knows_in, HasWidth}
use Rattle.ups_watch.specs.Table.{AreBlank}

pub same_text : (a b : List ℕ) → bytes_eq a b ≡ true → a ≡ b
same_text a b e = (bytes_eq-Decides a b).0 e

-- the row w stands at the step, and the others stay
abbrev pub Puts : List (List ℕ × Cells) → List (List ℕ × Cells) → List ℕ → Cells → Type 0
Puts rows new step w = (q : List ℕ) → lookup (bytes_eq q) new ≡ cond (bytes_eq step q) (Some w) (lookup (bytes_eq q) rows)

module _ (rows new : List (List ℕ × Cells)) (step : List ℕ) (w : Cells) (puts : Puts rows new step w) where
  pub known_after : knows_in rows step ≡ true → (u : List ℕ) → knows_in new u ≡ knows_in rows u
  known_after known u = by (bytes_eq step u) refl
    where
      by : (b : Bool) → bytes_eq step u ≡ b → knows_in new u ≡ knows_in rows u
      by true e = ap is_some (puts u ∙ ap (λ b. cond b (Some w) (lookup (bytes_eq u) rows)) e) ∙ sym known ∙ ap (knows_in rows) (same_text step u e)
      by false e = ap is_some (puts u ∙ ap (λ b. cond b (Some w) (lookup (bytes_eq u) rows)) e)

  pub width_after : (n : ℕ) → length w ≡ n → HasWidth n rows → HasWidth n new
  width_after n same wide u = subst (λ (o : Option Cells). IfSome o (λ row. length row ≡ n)) (sym (puts u)) (by (bytes_eq step u))
    where
      by : (b : Bool) → IfSome (cond b (Some w) (lookup (bytes_eq u) rows)) (λ row. length row ≡ n)
      by true = same
      by false = wide u

-- the row of the step goes, and the others stay
pub width_left : (rows new : List (List ℕ × Cells)) (step : List ℕ) → ((q : List ℕ) → lookup (bytes_eq q) new ≡ cond (bytes_eq step q) None (lookup (bytes_eq q) rows)) → (n : ℕ) → HasWidth n rows → HasWidth n new
width_left rows new step takes n wide u = subst (λ (o : Option Cells). IfSome o (λ row. length row ≡ n)) (sym (takes u)) (by (bytes_eq step u))
  where
    by : (b : Bool) → IfSome (cond b None (lookup (bytes_eq u) rows)) (λ row. length row ≡ n)
    by true = tt
    by false = wide u

-- a cell of a row in which one is set
pub cell_set : (row : Cells) (place : ℕ) (how : Option Subscription) (p : ℕ) → place < length row → get_or (set row place how) p None ≡ cond (eqb place p) how (get_or row p None)
cell_set row place how p within = elim (cases_eq place p) [
  | inl e ↦ get_or-set_at row place p how None (sym e) within ∙ sym (ap (λ b. cond b how (get_or row p None)) (eq-eqb place p e))
  | inr n ↦ get_or-set_other row place p how None (λ e. n (sym e)) ∙ sym (ap (λ b. cond b how (get_or row p None)) (ne_eqb place p n))
]

cleared_row : (row : Cells) (place p : ℕ) → get_or (set row place None) p None ≡ cond (eqb place p) None (get_or row p None)
cleared_row row place p = elim (cases_lt place (length row)) [
  | inl a ↦ cell_set row place None p a
  | inr a ↦ ap (λ (r : Cells). get_or r p None) (set_past row place None a) ∙ past a (eqb place p) refl
]
  where
    past : length row ≤ place → (b : Bool) → eqb place p ≡ b → get_or row p None ≡ cond b None (get_or row p None)
    past a true e = get_or_past row p None (subst (λ (q : ℕ). length row ≤ q) (eqb-true place p e) a)
    past a false e = refl

-- the cell of one peer is cleared in each row
module _ (rows new : List (List ℕ × Cells)) (place : ℕ) (cleared : new ≡ map (λ (e : List ℕ × Cells). (e.0, set e.1 place None)) rows) where
  cells_cleared : (u : List ℕ) → cells_in new u ≡ option_map (λ (row : Cells). set row place None) (cells_in rows u)
  cells_cleared u = ap (λ (es : List (List ℕ × Cells)). lookup (bytes_eq u) es) cleared ∙ lookup-map_values (λ (row : Cells). set row place None) (bytes_eq u) rows

  pub watching_cleared : (p : ℕ) (u : List ℕ) → watching_in new p u ≡ cond (eqb place p) None (watching_in rows p u)
  watching_cleared p u = ap (cell p) (cells_cleared u) ∙ by (cells_in rows u)
    where
      nothing : (b : Bool) → cell p None ≡ cond b (cell p None) (cell p None)
      nothing true = refl
      nothing false = refl

      by : (o : Option Cells) → cell p (option_map (λ (row : Cells). set row place None) o) ≡ cond (eqb place p) None (cell p o)
      by None = nothing (eqb place p)
      by (Some row) = cleared_row row place p

  pub known_cleared : (u : List ℕ) → knows_in new u ≡ knows_in rows u
  known_cleared u = ap is_some (cells_cleared u) ∙ by (cells_in rows u)
    where
      by : (o : Option Cells) → is_some (option_map (λ (row : Cells). set row place None) o) ≡ is_some o
      by None = refl
      by (Some row) = refl

  pub width_cleared : (n : ℕ) → HasWidth n rows → HasWidth n new
  width_cleared n wide u = subst (λ (o : Option Cells). IfSome o (λ row. length row ≡ n)) (sym (cells_cleared u)) (by (cells_in rows u) (wide u))
    where
      by : (o : Option Cells) → IfSome o (λ row. length row ≡ n) → IfSome (option_map (λ (row : Cells). set row place None) o) (λ row. length row ≡ n)
      by None h = tt
      by (Some row) h = length-set row place None ∙ h

pub text_is_itself : (a : List ℕ) → bytes_eq a a ≡ true
text_is_itself a = (bytes_eq-Decides a a).1 refl

-- the rows in another order
pub width_same : (rows new : List (List ℕ × Cells)) → ((q : List ℕ) → lookup (bytes_eq q) new ≡ lookup (bytes_eq q) rows) → (n : ℕ) → HasWidth n rows → HasWidth n new
width_same rows new same n wide u = subst (λ (o : Option Cells). IfSome o (λ row. length row ≡ n)) (sym (same u)) (wide u)

pub no_rows : (n : ℕ) (rows : List (List ℕ × Cells)) → rows ≡ [] → HasWidth n rows
no_rows n rows e = subst (HasWidth n) (sym e) (λ u. tt)

pub no_blanks : (n : ℕ) (rows : List Cells) → rows ≡ [] → AreBlank n rows
no_blanks n rows e = subst (AreBlank n) (sym e) (λ k l. absurd (omega (arith, l)))
