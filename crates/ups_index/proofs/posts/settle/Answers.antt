use Rattle.std.proofs.Common.{get_or, subst, sym}
use Rattle.ups_index.specs.declared.posts.Post.{Post}
use Rattle.ups_index.specs.Posts.{post, KeepsEach}
use Rattle.ups_index.proofs.Runs.{then_live}
use Rattle.ups_index.proofs.Tree.{put_keeps, put_has, posts_more, live_all}
use Rattle.ups_index.proofs.posts.settle.Goals as goal

pub returns-in_err-insert-clause-keeps : goal.returns-in_err-insert-clause-keeps
returns-in_err-insert-clause-keeps g c = subst (KeepsEach c.args.tree.now.keys) (sym c.in_err-insert.ensures.err) c.loop-post.invariant.keeps

pub loop-post-preserved : goal.loop-post-preserved
loop-post-preserved g c =
    let p : Post = get_or c.args.posts.now c.loop-post.post-index (post 0 0) in
    let kept = put_keeps c.loop-post.tree c.insert.new.self p c.in_ok-insert.ensures.updates in
    record {
      keeps = then_live c.args.tree.now.keys c.loop-post.tree.keys c.insert.new.self.keys c.loop-post.invariant.keeps kept;
      has = posts_more c.args.posts.now c.loop-post.tree.keys c.insert.new.self.keys c.loop-post.post-index c.loop-post-test.true c.loop-post.invariant.has kept (put_has c.loop-post.tree c.insert.new.self p c.in_ok-insert.ensures.updates);
    }

pub returns-clause-has : goal.returns-clause-has
returns-clause-has g c = live_all c.args.posts.now c.loop-post.tree.keys c.loop-post.post-index c.loop-post-test.false c.loop-post.invariant.has
