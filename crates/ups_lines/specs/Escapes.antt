-- The bytes that a text in a line stands for.
use Rattle.std.specs.Prelude.{◌≡◌, ◌≢◌, ◌⊎◌, ◌<◌, ◌+◌, ◌*◌, ◌==◌, ℕ, Bool, List, ◌∷◌}
use Rattle.std.specs.Char.{digit_value}
use Rattle.ups_pdu.specs.Each.{Each}

-- two hex digits, each in either case, spell a byte
pub record SpellsByte (high low byte : ℕ) : Type 0 where
  pub high_digit : digit_value high < 16
  pub low_digit : digit_value low < 16
  pub value : byte ≡ 16 * digit_value high + digit_value low

abbrev pub is_percent : ℕ → Bool
is_percent byte = byte == 37

-- the text begins with `%` and two hex digits that spell the byte; the rest follows
pub record IsEscape (text : List ℕ) (byte : ℕ) (rest : List ℕ) : Type 0 where
  pub high : ℕ
  pub low : ℕ
  pub parts : text ≡ 37 ∷ high ∷ low ∷ rest
  pub spells : SpellsByte high low byte

-- the text begins with the byte itself, unless that is `%`, or with an escape that spells it; the rest follows
abbrev pub StandsFirst : List ℕ → ℕ → List ℕ → Type 0
StandsFirst text byte rest = ((byte ≢ 37) × (text ≡ byte ∷ rest)) ⊎ IsEscape text byte rest

-- the text stands for these bytes, one after another
abbrev pub StandsFor : List ℕ → List ℕ → Type 0
StandsFor text bytes = Each StandsFirst text bytes

-- the text stands for some bytes: two hex digits follow each `%`
abbrev pub IsText : List ℕ → Type 0
IsText text = (bytes : List ℕ) × StandsFor text bytes
