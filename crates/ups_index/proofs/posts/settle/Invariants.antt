use Rattle.std.proofs.Common.{take}
use Rattle.ups_index.specs.Posts.{KeepsEach}
use Rattle.ups_index.proofs.posts.settle.Given as goal

abbrev pub invariant-loop-post : goal.invariant-loop-post
invariant-loop-post g l = record {
  keeps : KeepsEach l.fn.tree.keys l.tree.keys;
  has : KeepsEach (take l.post-index l.posts) l.tree.keys;
}
