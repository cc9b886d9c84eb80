-- The lines of a script: how they are taken from the bytes that a reader has left, if those are known.
use Rattle.std.specs.Prelude.{◌≡◌, ◌≢◌, ◌<◌, ◌⊎◌, ℕ, ◌+◌, Bool, true, false, List, [], ◌∷◌, ◌++◌, length, take, All, Option, IfSome, OnSome}
use Rattle.std.specs.Io.KnownBytes.{Keeps, Consumes, IsAtEnd}
use Rattle.ups_requests.specs.Limits.{max_line}

-- a reader has bytes left, if they are known
abbrev pub HasMore : Option (List ℕ) → Type 0
HasMore left = IfSome left (λ bytes. 0 < length bytes)

-- these bytes are taken and the line ends: a line feed follows and is taken too; or the input ends, or the line is too long
abbrev pub MeetsEnd : Option (List ℕ) → Option (List ℕ) → List ℕ → List ℕ → Type 0
MeetsEnd before after bytes line =
    Consumes before after (bytes ++ 10 ∷ [])
    ⊎ (Consumes before after bytes × (OnSome before (IsAtEnd after) ⊎ (max_line < length line)))

-- a line without line feeds is taken from a reader's bytes, up to its end
pub record TakesLine (before : Option (List ℕ)) (line : List ℕ) (after : Option (List ℕ)) : Type 0 where
  pub no_feed : All (λ b. b ≢ 10) line
  pub bytes : MeetsEnd before after line line

-- bytes that were added to a line are taken from a reader; the end of the line is met there, or not
abbrev pub Goes : Option (List ℕ) → Option (List ℕ) → List ℕ → List ℕ → Bool → Type 0
Goes before after bytes line true = MeetsEnd before after bytes line
Goes before after bytes line false = Consumes before after bytes

pub record Lengthens (before after : Option (List ℕ)) (from line : List ℕ) (whole : Bool) : Type 0 where
  pub more : List ℕ
  pub grown : line ≡ from ++ more
  pub no_feed : All (λ b. b ≢ 10) more
  pub taken : Goes before after more line whole

-- of the bytes that a reader shows, the first `count` belong to a line that has `before` bytes already, and `taken` are taken:
-- the line is whole if its line feed follows, if no byte is shown, or if the line is too long
abbrev pub IsLinePart : List ℕ → ℕ → ℕ → ℕ → Bool → Type 0
IsLinePart shown before count taken true = (take taken shown ≡ take count shown ++ 10 ∷ []) ⊎ ((taken ≡ count) × ((length shown ≡ 0) ⊎ (max_line < before + count)))
IsLinePart shown before count taken false = taken ≡ count

-- these lines are taken, one after another
abbrev pub TakesLines : Option (List ℕ) → List (List ℕ) → Option (List ℕ) → Type 0
TakesLines before [] after = Keeps before after
TakesLines before (line ∷ lines) after = (then : Option (List ℕ)) × TakesLine before line then × TakesLines then lines after
