-- Things that follow one another in bytes, and the results of a reader.
use Rattle.std.specs.Prelude.{◌≡◌, ◌⊎◌, ℕ, List, [], ◌∷◌, Result, Ok, Err}

-- Front bytes x rest says that the bytes begin with an encoding of x, followed by the rest. The bytes are these
-- things, one after the other, and nothing else.
abbrev pub Each : {X : Type 0} → (List ℕ → X → List ℕ → Type 0) → List ℕ → List X → Type 0
Each Front bytes [] = bytes ≡ []
Each Front bytes (x ∷ xs) = (rest : List ℕ) × Front bytes x rest × Each Front rest xs
