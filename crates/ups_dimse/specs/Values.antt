-- The values of elements, by their value representations (PS3.5 section 6.2), and how they fail.
use Rattle.std.specs.Prelude.{◌≡◌, ◌≢◌, ℕ, ◌<◌, ◌%◌, ◌^◌, ◌==◌, Bool, not, List, [], ◌++◌, length, Option, None, Some}
use Rattle.std.specs.Int.{w16, to_le_bytes}
use Rattle.std.specs.Option.{unwrap_or}
use Rattle.ups_pdu.specs.Each.{Each}
use Rattle.ups_pdu.specs.Identifier.{SpellsUid}
use Rattle.ups_dataset.specs.declared.tag.Tag.{Tag}
use Rattle.ups_dataset.specs.Tag.{tag_bytes}
use Rattle.ups_dimse.specs.declared.fault.DimseFault.{DimseFault}
use Rattle.ups_dimse.specs.declared.fault.DimseFault.TheVariants.{Missing, BadValue, UnknownField, Memory}
use Rattle.ups_dimse.specs.Elements.{CommandElement, command_tag, value_in}

-- US: a number in two bytes, low byte first
pub record HasUs (elements : List CommandElement) (number value : ℕ) : Type 0 where
  pub fits : value < 2 ^ 16
  pub is : value_in number elements ≡ Some (to_le_bytes w16 value)

-- a US is missing, or its length is not two bytes
abbrev pub UsFails : List CommandElement → ℕ → DimseFault → Type 0
UsFails elements number (Missing tag) = (tag ≡ command_tag number) × (value_in number elements ≡ None)
UsFails elements number (BadValue tag) = (tag ≡ command_tag number) × (value : List ℕ) × (value_in number elements ≡ Some value) × (length value ≢ 2)
UsFails elements number UnknownField = ⊥
UsFails elements number Memory = ⊥

-- a US that may be absent
abbrev pub MayHaveUs : List CommandElement → ℕ → Option ℕ → Type 0
MayHaveUs elements number (Some value) = HasUs elements number value
MayHaveUs elements number None = value_in number elements ≡ None

-- a US is present, and its length is not two bytes
abbrev pub PresentUsFails : List CommandElement → ℕ → DimseFault → Type 0
PresentUsFails elements number fault = (fault ≡ BadValue (command_tag number)) × (value : List ℕ) × (value_in number elements ≡ Some value) × (length value ≢ 2)

-- UI: a UID; None if the element is absent or encodes no UID
abbrev pub HasUid : List CommandElement → ℕ → Option (List ℕ) → Type 0
HasUid elements number (Some uid) = (value : List ℕ) × (value_in number elements ≡ Some value) × SpellsUid value uid
HasUid elements number None = (value : List ℕ) → value_in number elements ≡ Some value → (uid : List ℕ) → SpellsUid value uid → ⊥

-- Command Data Set Type (0000,0800): 0101H says that no data set follows, and every other value that one does
-- (PS3.7 annex E.1)
abbrev pub HasDataSet : List CommandElement → Bool → Type 0
HasDataSet elements there = (type : ℕ) × HasUs elements 0x0800 type × (there ≡ not (type == 0x0101))

-- the bytes begin with a tag
pub record IsTagAt (bytes : List ℕ) (tag : Tag) (rest : List ℕ) : Type 0 where
  pub group_fits : tag.group < 2 ^ 16
  pub element_fits : tag.element < 2 ^ 16
  pub parts : bytes ≡ tag_bytes tag ++ rest

-- AT: tags, one after the other; no tags if the element is absent
abbrev pub HasTags : List CommandElement → ℕ → List Tag → Type 0
HasTags elements number tags = Each IsTagAt (unwrap_or (value_in number elements) []) tags

-- an AT is present, and its length is not a multiple of four
abbrev pub TagsFail : List CommandElement → ℕ → DimseFault → Type 0
TagsFail elements number fault = (fault ≡ BadValue (command_tag number)) × (value : List ℕ) × (value_in number elements ≡ Some value) × (length value % 4 ≢ 0)
