-- Padding of values.
use Rattle.std.specs.Prelude.{ℕ, Bool, true, false, ◌&&◌, ◌||◌, List, [], ◌∷◌, ◌==◌, if◌then◌else◌}

-- whether a byte is padding: a space or a NUL (PS3.5 section 6.2)
abbrev pub is_padding : ℕ → Bool
is_padding byte = byte == 0 || byte == 32

abbrev pub is_space : ℕ → Bool
is_space byte = byte == 32

abbrev pub is_nil : List ℕ → Bool
is_nil [] = true
is_nil (b ∷ bs) = false

-- the bytes without the bytes at their end that pass a test
abbrev pub without_trailing : (ℕ → Bool) → List ℕ → List ℕ
without_trailing test [] = []
without_trailing test (b ∷ bs) = if test b && is_nil (without_trailing test bs) then [] else b ∷ without_trailing test bs

-- the bytes without the bytes at their front that pass a test
abbrev pub without_leading : (ℕ → Bool) → List ℕ → List ℕ
without_leading test [] = []
without_leading test (b ∷ bs) = if test b then without_leading test bs else b ∷ bs

-- the bytes without the padding at their end
abbrev pub without_padding : List ℕ → List ℕ
without_padding bytes = without_trailing is_padding bytes
