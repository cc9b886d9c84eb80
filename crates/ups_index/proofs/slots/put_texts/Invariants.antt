use Rattle.std.proofs.Common.{◌≤◌, ◌+◌, map, take}
use Rattle.ups_index.specs.Kept.{text_view}
use Rattle.ups_index.specs.Posts.{KeepsEach}
use Rattle.ups_index.specs.Posts.{HasTexts}
use Rattle.ups_index.proofs.slots.put_texts.Given as goal

abbrev pub invariant-loop-stored : goal.invariant-loop-stored
invariant-loop-stored g l = record {
  has : HasTexts (map text_view (take l.stored-index l.texts)) l.place l.table.posts;
  keeps : KeepsEach l.fn.table.posts l.table.posts;
  room : l.fn.table.room ≤ l.table.room + l.stored-index;
}
