-- The header of an element or an item (PS3.5 sections 7.1.2, 7.1.3 and 7.5).
use Rattle.std.specs.Prelude.{◌≡◌, ◌≢◌, ◌<◌, ◌≤◌, ◌%◌, ◌^◌, ℕ, Bool, true, false, ◌⊎◌, ◌&&◌, List, [], ◌∷◌, ◌++◌, length, ◌==◌, nat_lt, if◌then◌else◌, Option, None, Some}
use Rattle.std.specs.Int.{w16, w32, to_le_bytes}
use Rattle.ups_dataset.specs.declared.tag.Tag.{Tag}
use Rattle.ups_dataset.specs.Limits.{max_depth, max_short_length, undefined_length}
use Rattle.ups_dataset.specs.declared.vr.Vr.{Vr}
use Rattle.ups_dataset.specs.declared.vr.Vr.TheVariants.{Sq, Un}
use Rattle.ups_pdu.specs.declared.syntax.TransferSyntax.{TransferSyntax}
use Rattle.ups_pdu.specs.declared.syntax.TransferSyntax.TheVariants.{Implicit, Explicit}
use Rattle.ups_dataset.specs.declared.head.Head.{Head}
use Rattle.ups_dataset.specs.declared.head.Head.TheVariants.{Known, Strange, Mark}
use Rattle.ups_dataset.specs.declared.head.Reach.{Reach}
use Rattle.ups_dataset.specs.declared.head.Reach.TheVariants.{Filled, Ended}
use Rattle.ups_dataset.specs.declared.fault.SetFault.{SetFault}
use Rattle.ups_dataset.specs.declared.fault.SetFault.TheVariants.{Short, TagOrder, BadVr, OddLength, Depth, BadItem}
use Rattle.ups_dataset.specs.Tag.{IsTag, number, tag_bytes, is_mark, item_tag}
use Rattle.ups_dataset.specs.Vr.{letters, is_long}
use Rattle.ups_dataset.specs.Dictionary.{vr_of}

-- The value representation of an element without letters (PS3.5 annex A.1): that of the dictionary; but Unknown if
-- the value is longer than a header with its letters could say.
abbrev pub implicit_vr : Tag → ℕ → Vr
implicit_vr tag len = if nat_lt max_short_length len && nat_lt len undefined_length then (if is_long (vr_of tag) then vr_of tag else Un) else vr_of tag

-- a tag, and a length in four bytes
pub record IsMark (text : List ℕ) (tag : Tag) (len : ℕ) (rest : List ℕ) : Type 0 where
  pub low : IsTag tag
  pub fits : len < 2 ^ 32
  pub parts : text ≡ tag_bytes tag ++ (to_le_bytes w32 len ++ rest)

-- a tag, two letters, and a length in two bytes
pub record IsShortHead (text : List ℕ) (tag : Tag) (vr : Vr) (len : ℕ) (rest : List ℕ) : Type 0 where
  pub low : IsTag tag
  pub fits : len < 2 ^ 16
  pub short : is_long vr ≡ false
  pub parts : text ≡ tag_bytes tag ++ (letters vr ++ (to_le_bytes w16 len ++ rest))

-- a tag, two letters, two reserved bytes, which may be anything, and a length in four bytes
pub record IsLongHead (text : List ℕ) (tag : Tag) (vr : Vr) (len : ℕ) (rest : List ℕ) : Type 0 where
  pub reserved : ℕ
  pub low : IsTag tag
  pub fits : len < 2 ^ 32
  pub long : is_long vr ≡ true
  pub parts : text ≡ tag_bytes tag ++ (letters vr ++ (to_le_bytes w16 reserved ++ (to_le_bytes w32 len ++ rest)))

-- a tag, two letters that are no value representation, and two more bytes
pub record IsStrange (text : List ℕ) (tag : Tag) (rest : List ℕ) : Type 0 where
  pub first : ℕ
  pub second : ℕ
  pub more : ℕ
  pub low : IsTag tag
  pub unknown : (vr : Vr) → letters vr ≡ first ∷ second ∷ [] → ⊥
  pub parts : text ≡ tag_bytes tag ++ (first ∷ second ∷ (to_le_bytes w16 more ++ rest))

-- a header, then the rest
abbrev pub IsHead : TransferSyntax → List ℕ → Head → List ℕ → Type 0
IsHead syntax text (Mark tag len) rest = (is_mark tag ≡ true) × IsMark text tag len rest
IsHead Implicit text (Known tag vr len) rest = (is_mark tag ≡ false) × (vr ≡ implicit_vr tag len) × IsMark text tag len rest
IsHead Explicit text (Known tag vr len) rest = (is_mark tag ≡ false) × (IsShortHead text tag vr len rest ⊎ IsLongHead text tag vr len rest)
IsHead Implicit text (Strange tag) rest = ⊥
IsHead Explicit text (Strange tag) rest = (is_mark tag ≡ false) × IsStrange text tag rest

-- whether items follow a header: that of a sequence, or that of an unknown value of undefined length (PS3.5 section
-- 6.2.2)
abbrev pub is_sequence : Vr → ℕ → Bool
is_sequence Sq len = true
is_sequence Un len = len == undefined_length
is_sequence vr len = false

-- the first fault of a length that `room` bytes follow
abbrev pub length_fault : ℕ → ℕ → Option SetFault
length_fault len room = if (len % 2) == 0 then (if nat_lt room len then Some Short else None) else Some OddLength

-- the first fault of a header that `room` bytes follow, where tags from `from` on are allowed
abbrev pub head_fault : ℕ → Head → ℕ → Option SetFault
head_fault from (Known tag vr len) room = if nat_lt (number tag) from then Some TagOrder else (if len == undefined_length then (if is_sequence vr len then None else Some BadItem) else length_fault len room)
head_fault from (Strange tag) room = if nat_lt (number tag) from then Some TagOrder else Some BadVr
head_fault from (Mark tag len) room = Some BadItem

-- the first fault of an item's header that `room` bytes follow, inside `level` items
abbrev pub item_fault : ℕ → ℕ → ℕ → Option SetFault
item_fault level len room = if len == undefined_length then (if nat_lt level max_depth then None else Some Depth) else (if (len % 2) == 0 then (if nat_lt room len then Some Short else (if nat_lt level max_depth then None else Some Depth)) else Some OddLength)

-- why no element of a known representation begins here: there is no whole header, or it has a fault
abbrev pub HeadFails : TransferSyntax → ℕ → List ℕ → SetFault → Type 0
HeadFails syntax from text fault =
    ((fault ≡ Short) × ((head : Head) → (rest : List ℕ) → IsHead syntax text head rest → ⊥))
    ⊎ ((head : Head) × (rest : List ℕ) × IsHead syntax text head rest × (head_fault from head (length rest) ≡ Some fault))

-- an element of a known representation begins here
pub record IsKnown (syntax : TransferSyntax) (from : ℕ) (text : List ℕ) (tag : Tag) (vr : Vr) (len : ℕ) (rest : List ℕ) : Type 0 where
  pub head : IsHead syntax text (Known tag vr len) rest
  pub good : head_fault from (Known tag vr len) (length rest) ≡ None

-- why no item begins here: there is no whole header, or that of something else, or it has a fault
abbrev pub ItemHeadFails : ℕ → List ℕ → SetFault → Type 0
ItemHeadFails level text fault =
    ((fault ≡ Short) × (length text < 8))
    ⊎ (((fault ≡ BadItem) × (tag : Tag) × (len : ℕ) × (rest : List ℕ) × IsMark text tag len rest × (tag ≢ item_tag))
    ⊎ ((len : ℕ) × (rest : List ℕ) × IsMark text item_tag len rest × (item_fault level len (length rest) ≡ Some fault)))

-- an item begins here
pub record IsSequenceItem (level : ℕ) (text : List ℕ) (len : ℕ) (rest : List ℕ) : Type 0 where
  pub head : IsMark text item_tag len rest
  pub good : item_fault level len (length rest) ≡ None

-- the end of a set, or of the items of a sequence: their bytes are used up, or a delimiter of length 0 comes
abbrev pub Ends : Tag → Reach → List ℕ → List ℕ → Type 0
Ends mark Filled text rest = (text ≡ []) × (rest ≡ [])
Ends mark Ended text rest = IsMark text mark 0 rest

-- what a length says of the bytes after it: how far the inside goes, and the bytes that it is in
abbrev pub Opens : ℕ → List ℕ → Reach → List ℕ → Type 0
Opens len after Filled inner = (len < undefined_length) × (length inner ≡ len) × (rest : List ℕ) × (after ≡ inner ++ rest)
Opens len after Ended inner = (len ≡ undefined_length) × (inner ≡ after)

-- the same, with what is left of the inside, and what follows it
abbrev pub Spans : ℕ → List ℕ → Reach → List ℕ → List ℕ → List ℕ → Type 0
Spans len after Filled inner left rest = (len < undefined_length) × ((len % 2) ≡ 0) × (length inner ≡ len) × (after ≡ inner ++ rest) × (left ≡ [])
Spans len after Ended inner left rest = (len ≡ undefined_length) × (inner ≡ after) × (left ≡ rest)

-- what follows the inside: what is left of it if it ended with a delimiter
abbrev pub rest_behind : Reach → List ℕ → List ℕ → List ℕ
rest_behind Filled left behind = behind
rest_behind Ended left behind = left

-- nothing is left if the inside fills its bytes
abbrev pub IsLeft : Reach → List ℕ → Type 0
IsLeft Filled left = left ≡ []
IsLeft Ended left = Unit {0}

-- a length that is allowed before `room` bytes
abbrev pub IsLength : ℕ → ℕ → Type 0
IsLength len room = (len ≡ undefined_length) ⊎ ((len < undefined_length) × ((len % 2) ≡ 0) × (len ≤ room))

-- the inside that a length opens, and what follows it unless that is left of the inside
pub record IsDelimited (len : ℕ) (after : List ℕ) (reach : Reach) (inner behind : List ℕ) : Type 0 where
  pub opens : Opens len after reach inner
  pub spans : (left : List ℕ) → IsLeft reach left → Spans len after reach inner left (rest_behind reach left behind)
  pub short : length inner ≤ length after
