-- The elements that the words of an exact line stand for, one each, in Explicit VR Little Endian (PS3.5 annex A.2).
use Rattle.std.specs.Prelude.{◌≡◌, ◌⊎◌, ℕ, List, [], ◌∷◌, ◌++◌}
use Rattle.ups_pdu.specs.declared.syntax.TransferSyntax.TheVariants.{Explicit}
use Rattle.ups_pdu.specs.Each.{Each}
use Rattle.ups_dataset.specs.declared.tag.Tag.{Tag}
use Rattle.ups_dataset.specs.Written.{written_element}
use Rattle.ups_lines.specs.Escapes.{SpellsByte, StandsFor}
use Rattle.ups_lines.specs.Forms.{element_for}
use Rattle.ups_lines.specs.Words.{SpellsTag}

-- the text begins with two hex digits that spell the byte; the rest follows
pub record IsPair (text : List ℕ) (byte : ℕ) (rest : List ℕ) : Type 0 where
  pub high : ℕ
  pub low : ℕ
  pub parts : text ≡ high ∷ low ∷ rest
  pub spells : SpellsByte high low byte

-- the text spells these bytes, each by two hex digits
abbrev pub SpellsBytes : List ℕ → List ℕ → Type 0
SpellsBytes text bytes = Each IsPair text bytes

-- a tag, an equals sign and a text: the element that the bytes of the text make under the tag
pub record IsAttribute (word encoded : List ℕ) : Type 0 where
  pub digits : List ℕ
  pub text : List ℕ
  pub tag : Tag
  pub bytes : List ℕ
  pub parts : word ≡ digits ++ (61 ∷ text)
  pub tagged : SpellsTag digits tag
  pub stands : StandsFor text bytes
  pub made : encoded ≡ written_element Explicit (element_for tag bytes)

-- a colon and hex digits: the bytes that these spell
pub record IsHex (word encoded : List ℕ) : Type 0 where
  pub digits : List ℕ
  pub parts : word ≡ 58 ∷ digits
  pub spells : SpellsBytes digits encoded

abbrev pub EncodesWord : List ℕ → List ℕ → Type 0
EncodesWord word encoded = IsHex word encoded ⊎ IsAttribute word encoded

-- the words stand for these bytes, one word after the other
abbrev pub Encodes : List (List ℕ) → List ℕ → Type 0
Encodes [] encoded = encoded ≡ []
Encodes (word ∷ words) encoded = (one : List ℕ) × (more : List ℕ) × EncodesWord word one × Encodes words more × (encoded ≡ one ++ more)
