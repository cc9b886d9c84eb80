-- What the iterator of a vector has given.
use Rattle.std.proofs.Common.{◌≡◌, List, [], ◌∷◌, ◌++◌, ◌∙◌, ap, length, refl, sym, arith}
use Rattle.std.specs.Iterator.{Yields}
use Rattle.std.specs.List.{All}
use Rattle.std.specs.Vec.Iter.{into_iter_items, into_iter_len, into_iter_steps}
use Rattle.std.proofs.lemmas.List.Elements.{All-head, All-tail}
use Rattle.std.specs.declared.vec.IntoIter.{IntoIter}

-- it is a front of its items
pub taken_front : {X A : Type 0} (s : IntoIter X A) (xs : List X) (t : IntoIter X A) → Yields into_iter_steps s xs t → into_iter_items s ≡ xs ++ into_iter_items t
taken_front s [] t y = ap into_iter_items y
taken_front s (x ∷ xs) t y = y.1.0 ∙ ap (λ ys. x ∷ ys) (taken_front y.0 xs t y.2)

pub All-middle : {X : Type 0} (P : X → Type 0) (xs : List X) (x : X) (ys : List X) → All P (xs ++ x ∷ ys) → P x
All-middle P [] x ys all = All-head P x ys all
All-middle P (y ∷ xs) x ys all = All-middle P xs x ys (All-tail P y (xs ++ x ∷ ys) all)

-- where nothing is left of it, it has no items
empty : {X : Type 0} (xs : List X) → length xs ≡ 0 → xs ≡ []
empty [] e = refl
empty (x ∷ xs) e = absurd (omega arith)

pub nothing_left : {X A : Type 0} (s : IntoIter X A) → into_iter_len s ≡ 0 → into_iter_items s ≡ []
nothing_left s e = empty (into_iter_items s) (sym s.rest.ok.0 ∙ e)
