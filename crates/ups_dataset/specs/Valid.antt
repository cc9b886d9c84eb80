-- The lists of elements that are data sets (PS3.5 sections 7.1 and 7.5).
use Rattle.std.specs.Prelude.{ℕ, ◌+◌, ◌%◌, ◌≤◌, ◌≡◌, ◌≢◌, false, max, List, length}
use Rattle.ups_dataset.specs.declared.vr.Vr.{Vr}
use Rattle.ups_dataset.specs.declared.vr.Vr.TheVariants.{Sq}
use Rattle.ups_dataset.specs.Limits.{max_depth, max_short_length}
use Rattle.ups_dataset.specs.Tag.{IsTag, number, is_mark, is_group_length}
use Rattle.ups_dataset.specs.Vr.{is_long}
use Rattle.ups_dataset.specs.Data.{Data, bytes, items, Items, no_items, item, Elements, no_elements, element, El, elements_of}

-- the depth to which items nest
abbrev mutual
  pub depth_data : Data → ℕ
  depth_data (bytes b) = 0
  depth_data (items is) = depth_items is

  pub depth_items : Items → ℕ
  depth_items no_items = 0
  depth_items (item es more) = max (depth_elements es + 1) (depth_items more)

  pub depth_elements : Elements → ℕ
  depth_elements no_elements = 0
  depth_elements (element tag vr d more) = max (depth_data d) (depth_elements more)

-- A value of a representation: bytes of even length, which fits the length field (PS3.5 section 7.1.2); or, in a
-- sequence, items that nest at most 8 deep.
abbrev pub IsValue : Vr → Data → Type 0
IsValue vr (bytes b) = (vr ≢ Sq) × ((length b % 2) ≡ 0) × (is_long vr ≡ false → length b ≤ max_short_length)
IsValue vr (items is) = (vr ≡ Sq) × (depth_items is ≤ max_depth)

-- An element that is allowed in a data set: no item or delimiter (PS3.5 section 7.5), no group length (PS3.5 section
-- 7.2).
pub record IsElement (e : El) : Type 0 where
  pub no_mark : is_mark e.tag ≡ false
  pub no_group_length : is_group_length e.tag ≡ false
  pub value : IsValue e.vr e.value

-- Tags rise, from a least one on, each element is allowed in a data set, and its items are data sets too.
abbrev mutual
  pub AreElements : ℕ → Elements → Type 0
  AreElements low no_elements = Unit {0}
  AreElements low (element tag vr d more) =
      (low ≤ number tag) × IsTag tag × IsElement (record { tag = tag; vr = vr; value = d }) × HoldsSets d × AreElements (number tag + 1) more

  pub HoldsSets : Data → Type 0
  HoldsSets (bytes b) = Unit {0}
  HoldsSets (items is) = AreSets is

  pub AreSets : Items → Type 0
  AreSets no_items = Unit {0}
  AreSets (item es more) = AreElements 0 es × AreSets more

-- a data set (PS3.5 section 7.1)
abbrev pub IsDataSet : List El → Type 0
IsDataSet set = AreElements 0 (elements_of set)
