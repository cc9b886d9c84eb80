-- What is put among the steps held.
use Rattle.std.proofs.Common.{◌≡◌, ℕ, suc, Bool, true, false, cond, List, [], ◌∷◌, ◌++◌, length, None, Some, refl, sym, ap, true≢false}
use Rattle.std.specs.Prelude.{is_some}
use Rattle.std.specs.Str.{bytes_eq}
use Rattle.ups_steps.specs.declared.held.HeldRow.{HeldRow}
use Rattle.ups_steps.specs.Held.{held_at, put_held}

-- a step that is not held goes behind the others
pub put_new : {A : Type 0} (u : List ℕ) (h : HeldRow A) (hs : List (List ℕ × HeldRow A)) → held_at u hs ≡ None → put_held u h hs ≡ hs ++ (u, h) ∷ []
put_new u h [] none = refl
put_new {A} u h (e ∷ hs) none = by (bytes_eq u e.0) none (put_new u h hs)
  where
    by : (b : Bool) → cond b (Some e.1) (held_at u hs) ≡ None → (held_at u hs ≡ None → put_held u h hs ≡ hs ++ (u, h) ∷ []) → cond b ((e.0, h) ∷ hs) (e ∷ put_held u h hs) ≡ (e ∷ hs) ++ (u, h) ∷ []
    by true none rest = absurd cc
    by false none rest = ap (λ l. e ∷ l) (rest none)

-- one that is held takes the place of what was held of it
pub as_many_put : {A : Type 0} (u : List ℕ) (h : HeldRow A) (hs : List (List ℕ × HeldRow A)) → is_some (held_at u hs) ≡ true → length (put_held u h hs) ≡ length hs
as_many_put u h [] here = absurd (true≢false (sym here))
as_many_put {A} u h (e ∷ hs) here = by (bytes_eq u e.0) here (as_many_put u h hs)
  where
    by : (b : Bool) → is_some (cond b (Some e.1) (held_at u hs)) ≡ true → (is_some (held_at u hs) ≡ true → length (put_held u h hs) ≡ length hs) → length (cond b ((e.0, h) ∷ hs) (e ∷ put_held u h hs)) ≡ length (e ∷ hs)
    by true here rest = refl
    by false here rest = ap suc (rest here)
