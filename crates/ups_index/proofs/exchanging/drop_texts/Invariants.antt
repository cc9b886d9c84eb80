use Rattle.std.proofs.Common.{◌≤◌, map}
use Rattle.ups_index.specs.Kept.{text_view}
use Rattle.ups_index.specs.Posts.{KeepsOthers, KeepsTexts}
use Rattle.ups_index.proofs.exchanging.drop_texts.Given as goal

abbrev pub invariant-loop-stored : goal.invariant-loop-stored
invariant-loop-stored g l = record {
  keeps : KeepsOthers l.place l.fn.table.posts l.table.posts;
  spares : KeepsTexts (map text_view l.others) l.place l.fn.table.posts l.table.posts;
  room : l.fn.table.room ≤ l.table.room;
}
