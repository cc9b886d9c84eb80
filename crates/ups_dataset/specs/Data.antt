-- A data set: a list of elements, each with bytes or with items, which are data sets themselves.
use Rattle.std.specs.Prelude.{ℕ, zero, suc, ◌+◌, Bool, false, nat_lt, List, [], ◌∷◌, map, Option, None, Some, if◌then◌else◌}
use Rattle.std.specs.List.{list_any}
use Rattle.std.specs.Option.{unwrap_or}
use Rattle.ups_dataset.specs.declared.tag.Tag.{Tag}
use Rattle.ups_dataset.specs.declared.vr.Vr.{Vr}
use Rattle.ups_dataset.specs.Tag.{number, is_tag}

mutual
  pub data Data : Type 0 where
    bytes : List ℕ → Data
    items : Items → Data

  pub data Items : Type 0 where
    no_items : Items
    item : Elements → Items → Items

  pub data Elements : Type 0 where
    no_elements : Elements
    element : Tag → Vr → Data → Elements → Elements

-- an element: its tag, its value representation, and its value
pub record El : Type 0 where
  pub tag : Tag
  pub vr : Vr
  pub value : Data

abbrev pub elements_of : List El → Elements
elements_of [] = no_elements
elements_of (e ∷ es) = element e.tag e.vr e.value (elements_of es)

abbrev pub items_of : List (List El) → Items
items_of [] = no_items
items_of (s ∷ ss) = item (elements_of s) (items_of ss)

-- the element with a tag
abbrev pub element_at : Tag → List El → Option El
element_at tag [] = None
element_at tag (e ∷ es) = if is_tag e.tag tag then Some e else element_at tag es

-- the first if there is one, otherwise the second
abbrev pub first_of_two : Option El → Option El → Option El
first_of_two None below = below
first_of_two (Some x) below = Some x

-- the set with an element put in the place of the one with its tag, or else before the first with a greater tag
-- (PS3.5 section 7.1: tags rise)
abbrev pub put : El → List El → List El
put x [] = x ∷ []
put x (e ∷ es) = if is_tag e.tag x.tag then x ∷ es else (if nat_lt (number x.tag) (number e.tag) then x ∷ e ∷ es else e ∷ put x es)

-- the second set with each element of the first put into it
abbrev pub laid_over : List El → List El → List El
laid_over [] below = below
laid_over (x ∷ xs) below = laid_over xs (put x below)

-- the number of elements before the first whose tag is not less
abbrev pub place_in : Tag → List El → ℕ
place_in tag [] = 0
place_in tag (e ∷ es) = if nat_lt (number e.tag) (number tag) then suc (place_in tag es) else 0

-- whether the element at this place has this tag
abbrev pub stands_at : Tag → ℕ → List El → Bool
stands_at tag place [] = false
stands_at tag zero (e ∷ es) = is_tag e.tag tag
stands_at tag (suc place) (e ∷ es) = stands_at tag place es

-- whether a tag is one of these
abbrev pub is_listed : Tag → List Tag → Bool
is_listed tag tags = list_any (λ t. is_tag t tag) tags

-- a value made empty: no bytes, or a sequence without items
abbrev pub without_value : Data → Data
without_value (bytes b) = bytes []
without_value (items is) = items no_items

-- the answer of a data set to an element that asks for its tag: the set's own element, or else the asking one without
-- a value
abbrev pub answer_to : List El → El → El
answer_to row key = unwrap_or (element_at key.tag row) (record { tag = key.tag; vr = key.vr; value = without_value key.value })

-- the answer of a data set to a set of such elements (PS3.4 section C.4.1.1.3.2)
abbrev pub answer : List El → List El → List El
answer row keys = map (answer_to row) keys

-- a measure of a set, by which each set inside a set measures less than the outer one
abbrev mutual
  pub weight_data : Data → ℕ
  weight_data (bytes b) = 0
  weight_data (items is) = weight_items is

  pub weight_items : Items → ℕ
  weight_items no_items = 0
  weight_items (item es more) = weight_elements es + 1 + weight_items more

  pub weight_elements : Elements → ℕ
  weight_elements no_elements = 0
  weight_elements (element tag vr d more) = weight_data d + weight_elements more

abbrev pub weight : List El → ℕ
weight es = weight_elements (elements_of es)
