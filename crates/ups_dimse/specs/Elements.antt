-- The elements of a command set (PS3.7 section 6.3.1).
use Rattle.std.specs.Prelude.{◌≡◌, ℕ, ◌+◌, ◌<◌, ◌≤◌, ◌%◌, ◌^◌, ◌==◌, if◌then◌else◌, List, [], ◌∷◌, ◌++◌, length, Option, None, Some}
use Rattle.std.specs.Int.{w32, to_le_bytes}
use Rattle.ups_dataset.specs.declared.tag.Tag.{Tag}
use Rattle.ups_dataset.specs.Limits.{undefined_length}
use Rattle.ups_dataset.specs.Tag.{tag_bytes}

-- an element, given by its number in group 0000 and the bytes of its value
pub record CommandElement : Type 0 where
  pub number : ℕ
  pub value : List ℕ

-- the tag of an element of a command set: all are of group 0000 (PS3.7 section 6.3.1)
abbrev pub command_tag : ℕ → Tag
command_tag number = record { group = 0; element = number }

-- The bytes begin with an element in Implicit VR Little Endian (PS3.5 section 7.1.3): its tag, the length of its
-- value, which is even and defined, and its value. The rest follows.
pub record IsCommandElement (bytes : List ℕ) (element : CommandElement) (rest : List ℕ) : Type 0 where
  pub in_group : element.number < 2 ^ 16
  pub defined : length element.value < undefined_length
  pub even : length element.value % 2 ≡ 0
  pub parts : bytes ≡ tag_bytes (command_tag element.number) ++ (to_le_bytes w32 (length element.value) ++ (element.value ++ rest))

-- The bytes begin with these elements, whose numbers ascend and are at least `from` (PS3.5 section 7.1). The rest
-- follows.
abbrev pub SpellsCommandElements : ℕ → List ℕ → List CommandElement → List ℕ → Type 0
SpellsCommandElements from bytes [] rest = bytes ≡ rest
SpellsCommandElements from bytes (e ∷ es) rest = (next : List ℕ) × IsCommandElement bytes e next × (from ≤ e.number) × SpellsCommandElements (e.number + 1) next es rest

-- the bytes consist of elements alone
abbrev pub AreCommandElements : ℕ → List ℕ → Type 0
AreCommandElements from bytes = (elements : List CommandElement) × SpellsCommandElements from bytes elements []

-- the value of the element with this number
abbrev pub value_in : ℕ → List CommandElement → Option (List ℕ)
value_in number [] = None
value_in number (e ∷ es) = if e.number == number then Some e.value else value_in number es
