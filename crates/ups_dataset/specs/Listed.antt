-- A list of tags, as the sorted numbers of these tags.
use Rattle.std.specs.Prelude.{ℕ, List, [], ◌∷◌, map}
use Rattle.std.specs.List.Sorted.{IsNonDecreasing, IsPermutation}
use Rattle.ups_dataset.specs.declared.tag.Tag.{Tag}
use Rattle.ups_dataset.specs.Tag.{IsTag, number}

abbrev pub AreTags : List Tag → Type 0
AreTags [] = Unit {0}
AreTags (t ∷ ts) = IsTag t × AreTags ts

pub record Lists (tags : List Tag) (numbers : List ℕ) : Type 0 where
  pub tags_fit : AreTags tags
  pub same : IsPermutation (map number tags) numbers
  pub rise : IsNonDecreasing numbers
