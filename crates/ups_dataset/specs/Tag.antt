-- Data element tags.
use Rattle.std.specs.Prelude.{ℕ, ◌+◌, ◌*◌, ◌^◌, ◌<◌, Bool, ◌&&◌, ◌==◌, List, ◌++◌}
use Rattle.std.specs.Int.{w16, to_le_bytes}
use Rattle.ups_dataset.specs.declared.tag.Tag.{Tag}

-- a tag: the group and the element have two bytes each (PS3.5 section 7.1.1)
pub record IsTag (tag : Tag) : Type 0 where
  pub group : tag.group < 2 ^ 16
  pub element : tag.element < 2 ^ 16

-- the group and the element as one number, by which tags are ordered (PS3.5 section 7.1)
abbrev pub number : Tag → ℕ
number tag = 65536 * tag.group + tag.element

abbrev pub is_tag : Tag → Tag → Bool
is_tag a b = a.group == b.group && a.element == b.element

-- the group, then the element, each in two bytes with the lower byte first (PS3.5 section 7.1.1)
abbrev pub tag_bytes : Tag → List ℕ
tag_bytes tag = to_le_bytes w16 tag.group ++ to_le_bytes w16 tag.element

-- the tags of an item, an item delimiter and a sequence delimiter (PS3.5 section 7.5)
abbrev pub item_tag : Tag
item_tag = record { group = 0xfffe; element = 0xe000 }

abbrev pub item_delimitation : Tag
item_delimitation = record { group = 0xfffe; element = 0xe00d }

abbrev pub sequence_delimitation : Tag
sequence_delimitation = record { group = 0xfffe; element = 0xe0dd }

-- whether a tag is that of an item or a delimiter: group FFFE (PS3.5 section 7.5)
abbrev pub is_mark : Tag → Bool
is_mark tag = tag.group == 0xfffe

-- whether a tag is that of a group length: (gggg,0000) (PS3.5 section 7.2)
abbrev pub is_group_length : Tag → Bool
is_group_length tag = tag.element == 0
