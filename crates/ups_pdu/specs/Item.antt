-- Items and sub-items of the association PDUs (PS3.8 section 9.3.2), in any order.
use Rattle.std.specs.Prelude.{◌≡◌, ℕ, ◌<◌, ◌^◌, Bool, List, [], ◌∷◌, ◌++◌, length, ◌==◌, if◌then◌else◌}
use Rattle.std.specs.List.{list_any}
use Rattle.std.specs.Int.{w16, to_be_bytes}
use Rattle.ups_pdu.specs.Each.{Each}

-- an item: its type and its content
pub record Item : Type 0 where
  pub kind : ℕ
  pub content : List ℕ

-- the type, a reserved byte, the length of the content in two bytes, and the content; then the rest
pub record IsItem (bytes : List ℕ) (item : Item) (rest : List ℕ) : Type 0 where
  pub reserved : ℕ
  pub fits : length item.content < 2 ^ 16
  pub parts : bytes ≡ item.kind ∷ reserved ∷ to_be_bytes w16 (length item.content) ++ (item.content ++ rest)

-- whether an item has one of these types
abbrev pub is_one_of : List ℕ → Item → Bool
is_one_of kinds item = list_any (λ kind. kind == item.kind) kinds

-- the contents of the items of one type, in order
abbrev pub contents : ℕ → List Item → List (List ℕ)
contents kind [] = []
contents kind (x ∷ xs) = if x.kind == kind then x.content ∷ contents kind xs else contents kind xs

-- each content encodes one of these things, in order
abbrev pub EachSpells : {X : Type 0} → (List ℕ → X → Type 0) → List (List ℕ) → List X → Type 0
EachSpells Spells [] [] = Unit {0}
EachSpells Spells (c ∷ cs) (x ∷ xs) = Spells c x × EachSpells Spells cs xs
EachSpells Spells [] (x ∷ xs) = ⊥
EachSpells Spells (c ∷ cs) [] = ⊥

-- items fill the bytes, and the contents of those of type `kind` are these
pub record HasContents (kind : ℕ) (bytes : List ℕ) (found : List (List ℕ)) : Type 0 where
  pub items : List Item
  pub each : Each IsItem bytes items
  pub are : contents kind items ≡ found

-- the first content of type `kind`, and remaining bytes whose items have the others
pub record IsNext (kind : ℕ) (content rest : List ℕ) (found : List (List ℕ)) : Type 0 where
  pub others : List (List ℕ)
  pub parts : found ≡ content ∷ others
  pub has : HasContents kind rest others
