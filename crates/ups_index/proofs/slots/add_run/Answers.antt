use Rattle.std.proofs.Common.{List, Contains, inr, subst, sym}
use Rattle.ups_index.specs.declared.posts.Post.{Post}
use Rattle.ups_index.specs.Posts.{post}
use Rattle.ups_index.proofs.Placed.{place_more, first_read, all_read}
use Rattle.ups_index.proofs.slots.add_run.Goals as goal

pub loop-post-init : goal.loop-post-init
loop-post-init g c = record {
  has = λ number place h. inr (subst (λ (l : List Post). Contains l (post number place)) (sym c.into_iter-post-iterator.ensures.into_iter_gives) h);
  keeps = λ place h. h;
}

pub loop-post-preserved : goal.loop-post-preserved
loop-post-preserved g c =
    let more = place_more c.loop-post.places.items c.push.new.self.items c.in-Some.post.now.place c.in_ok-push.ensures.items in
    record {
      has = first_read c.args.run c.loop-post.post-iterator c.next.new.self c.in-Some.post.now c.loop-post.places.items c.push.new.self.items c.in-Some.ensures.steps more.0 more.1 c.loop-post.invariant.has;
      keeps = λ place h. more.0 place (c.loop-post.invariant.keeps place h);
    }

pub returns-clause-has : goal.returns-clause-has
returns-clause-has g c = all_read c.args.run c.loop-post.post-iterator c.loop-post.places.items c.in-None.ensures.steps.0 c.loop-post.invariant.has
