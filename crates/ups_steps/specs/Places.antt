-- The places of steps, in order of creation. A place is free once its step is removed.
use Rattle.std.specs.Prelude.{ℕ, List, [], ◌∷◌, Option, None, Some}

-- these steps, with the step that holds a place in front of them, if one does
abbrev pub with_held : {X : Type 0} → List ℕ → Option X → List (List ℕ × X) → List (List ℕ × X)
with_held u None hs = hs
with_held u (Some h) hs = (u, h) ∷ hs

-- the steps that hold the places, in their order
abbrev pub held_in : {X : Type 0} → List (List ℕ × Option X) → List (List ℕ × X)
held_in [] = []
held_in (e ∷ es) = with_held e.0 e.1 (held_in es)
