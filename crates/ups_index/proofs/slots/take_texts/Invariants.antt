use Rattle.std.proofs.Common.{◌≤◌}
use Rattle.ups_index.specs.Posts.{KeepsOthers}
use Rattle.ups_index.proofs.slots.take_texts.Given as goal

abbrev pub invariant-loop-stored : goal.invariant-loop-stored
invariant-loop-stored g l = record {
  keeps : KeepsOthers l.place l.fn.table.posts l.table.posts;
  room : l.fn.table.room ≤ l.table.room;
}
