use Rattle.ups_index.proofs.Placed.{places_read, places_all}
use Rattle.ups_index.proofs.slots.add_places.Goals as goal

pub loop-post-preserved : goal.loop-post-preserved
loop-post-preserved g c = record {
  has = places_read c.args.low c.args.high c.args.posts.now c.loop-post.post-index c.loop-post.places.items c.add_place.new.places.items c.loop-post-test.true c.loop-post.invariant.has c.in_ok-add_place.ensures.keeps c.in_ok-add_place.ensures.has;
  keeps = λ place h. c.in_ok-add_place.ensures.keeps place (c.loop-post.invariant.keeps place h);
}

pub returns-clause-has : goal.returns-clause-has
returns-clause-has g c = places_all c.args.low c.args.high c.args.posts.now c.loop-post.post-index c.loop-post.places.items c.loop-post-test.false c.loop-post.invariant.has
