-- Things that happen, one after the other.
use Rattle.std.proofs.Common.{◌≡◌, List, [], ◌∷◌, ◌++◌, refl, sym, ap, ◌∙◌, subst, append_assoc, append-nil}
use Rattle.ups_session.specs.Fold.{Visit, Chain}

-- some things, and then more
pub chain_on : {A L X : Type 0} (Step : L → X → List (Visit A) → L → Type 0) (xs ys : List X) (association mid after : L) (a b : List (Visit A)) → Chain Step xs association a mid → Chain Step ys mid b after → Chain Step (xs ++ ys) association (a ++ b) after
chain_on {A} {L} Step [] ys association mid after a b (none, same) next =
    let e : b ≡ a ++ b = ap (λ (t : List (Visit A)). t ++ b) (sym none) in
    subst (λ (t : List (Visit A)). Chain Step ys association t after) e (subst (λ (l : L). Chain Step ys l b after) same next)
chain_on {A} Step (x ∷ xs) ys association mid after a b (between, first, then, step, rest, is) next = (
  between,
  first,
  then ++ b,
  step,
  chain_on Step xs ys between mid after then b rest next,
  ap (λ (t : List (Visit A)). t ++ b) is ∙ append_assoc first then b,
)

pub chain_none : {A L X : Type 0} (Step : L → X → List (Visit A) → L → Type 0) (association : L) → Chain {A = A} {X = X} Step [] association [] association
chain_none Step association = (refl, refl)

pub chain_one : {A L X : Type 0} (Step : L → X → List (Visit A) → L → Type 0) (x : X) (association after : L) (a : List (Visit A)) → Step association x a after → Chain Step (x ∷ []) association a after
chain_one Step x association after a step = (after, a, [], step, (refl, refl), sym (append-nil a))
