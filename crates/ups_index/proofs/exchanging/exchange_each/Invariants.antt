use Rattle.std.proofs.Common.{ℕ, List, ◌≤◌, ◌+◌, ◌⊎◌, map, take, Contains}
use Rattle.ups_dataset.specs.declared.tag.Tag.{Tag}
use Rattle.ups_index.specs.Kept.{text_view}
use Rattle.ups_index.specs.Numbers.{text_number}
use Rattle.ups_index.specs.Posts.{post, KeepsOthers, KeepsTexts}
use Rattle.ups_index.proofs.exchanging.exchange_each.Given as goal

abbrev pub invariant-loop-index : goal.invariant-loop-index
invariant-loop-index g l = record {
  has : (stored : Tag × List ℕ) → Contains (map text_view (take l.index l.new)) stored
      → Contains (map text_view l.new) stored × (Contains (map text_view l.old) stored ⊎ Contains l.table.posts (post (text_number stored.0 stored.1) l.place));
  keeps : KeepsOthers l.place l.fn.table.posts l.table.posts;
  spares : KeepsTexts (map text_view l.new) l.place l.fn.table.posts l.table.posts;
  room : l.fn.table.room ≤ l.table.room + l.index;
}
