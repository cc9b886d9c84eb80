use Rattle.std.proofs.Common.{◌≡◌, ℕ, ◌<◌, ◌++◌, take, get_or}
use Rattle.std.specs.List.{flat_map}
use Rattle.ups_dataset.specs.declared.tag.Tag.{Tag}
use Rattle.ups_dataset.specs.Tag.{tag_bytes}
use Rattle.ups_dimse.specs.Held.{IsHeldTag}
use Rattle.ups_dimse.proofs.writing.put_tags.Given as goal

abbrev pub invariant-loop-tag : goal.invariant-loop-tag
invariant-loop-tag g l =
    (l.out.items ≡ l.initial.out.items ++ flat_map tag_bytes (take l.tag-index l.tags))
    × ((k : ℕ) → (d : Tag) → k < l.tag-index → IsHeldTag (get_or l.tags k d))
