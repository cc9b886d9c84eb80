use Rattle.std.proofs.Common.{◌≡◌, ◌+◌, ◌*◌, take}
use Rattle.std.specs.Io.KnownBytes.{Appends}
use Rattle.ups_dataset.specs.Data.{weight, weight_data, items_of}
use Rattle.ups_dataset.specs.View.{value_view}
use Rattle.ups_lines.specs.Printing.{spaced, follows_after, words, words_items}
use Rattle.ups_lines.specs.Ways.{way_text}
use Rattle.ups_lines.proofs.printing.+printing.Given as goal

abbrev pub decreases-put_element : goal.decreases-put_element
decreases-put_element g l = 2 * weight_data (value_view l.element.now.value)

abbrev pub decreases-put_set : goal.decreases-put_set
decreases-put_set g l = 2 * weight l.set.now + 1

abbrev pub invariant-put_element-loop-place : goal.invariant-put_element-loop-place
invariant-put_element-loop-place g l = Appends (g.W.Write.contents l.initial.writer) (g.W.Write.contents l.writer) (spaced l.initial.follows (words_items (way_text l.way) l.element.tag 1 (items_of (take l.place l.set-items))))
    × (l.follows ≡ follows_after l.initial.follows (words_items (way_text l.way) l.element.tag 1 (items_of (take l.place l.set-items))))

abbrev pub invariant-put_set-loop-element : goal.invariant-put_set-loop-element
invariant-put_set-loop-element g l = Appends (g.W.Write.contents l.initial.writer) (g.W.Write.contents l.writer) (spaced l.initial.follows (words (way_text l.way) (take l.element-index l.set)))
    × (l.follows ≡ follows_after l.initial.follows (words (way_text l.way) (take l.element-index l.set)))
