use Rattle.std.proofs.Common.{◌≡◌, map, take}
use Rattle.ups_dataset.specs.Tag.{number}
use Rattle.ups_dataset.specs.Listed.{AreTags}
use Rattle.ups_dataset.proofs.listing.sorted_numbers.Given as goal

abbrev pub invariant-loop-tag : goal.invariant-loop-tag
invariant-loop-tag g l = record { fit : AreTags (take l.tag-index l.tags); same : l.numbers.items ≡ map number (take l.tag-index l.tags) }
