-- The words of a line, and the tags that words spell.
use Rattle.std.specs.Prelude.{◌≡◌, ◌⊎◌, ℕ, ◌+◌, ◌*◌, List, [], ◌∷◌, length, Option, None, Some}
use Rattle.std.specs.List.{slice_split}
use Rattle.ups_pdu.specs.Padding.{is_space}
use Rattle.ups_dataset.specs.declared.tag.Tag.{Tag}
use Rattle.ups_lines.specs.declared.fault.LineReason.{LineReason}
use Rattle.ups_lines.specs.declared.fault.LineReason.TheVariants.{EmptyWord, MissingWord}
use Rattle.ups_lines.specs.Escapes.{SpellsByte}

-- the words of a line, separated by spaces
abbrev pub words_of : List ℕ → List (List ℕ)
words_of line = slice_split is_space line

-- a bound on the number of words left: each but the last takes its space with it
abbrev pub word_bytes_left : Option (List ℕ) → ℕ
word_bytes_left None = 0
word_bytes_left (Some text) = 1 + length text

-- the words that are left
abbrev pub words_left : Option (List ℕ) → List (List ℕ)
words_left None = []
words_left (Some text) = words_of text

-- no word comes next, for this reason: no word is left, or the next word is empty
abbrev pub NoWord : List (List ℕ) → LineReason → Type 0
NoWord words reason = ((words ≡ []) × (reason ≡ MissingWord)) ⊎ ((rest : List (List ℕ)) × (words ≡ [] ∷ rest) × (reason ≡ EmptyWord))

-- four hex digits spell a number, the high digits first
pub record SpellsNumber (a b c d number : ℕ) : Type 0 where
  pub high : ℕ
  pub low : ℕ
  pub first : SpellsByte a b high
  pub second : SpellsByte c d low
  pub value : number ≡ 256 * high + low

-- eight hex digits spell a tag: its group and its element (PS3.5 section 7.1)
pub record SpellsTag (word : List ℕ) (tag : Tag) : Type 0 where
  pub a : ℕ
  pub b : ℕ
  pub c : ℕ
  pub d : ℕ
  pub e : ℕ
  pub f : ℕ
  pub g : ℕ
  pub h : ℕ
  pub digits : word ≡ a ∷ b ∷ c ∷ d ∷ e ∷ f ∷ g ∷ h ∷ []
  pub group : SpellsNumber a b c d tag.group
  pub element : SpellsNumber e f g h tag.element
