use Rattle.ups_index.proofs.Placed.{nowhere_read, nowhere_all}
use Rattle.ups_index.proofs.slots.place_among.Goals as goal

pub loop-post-preserved : goal.loop-post-preserved
loop-post-preserved g c = nowhere_read c.args.slots.now.slots c.args.step c.args.posts.now c.loop-post.post-index c.loop-post-test.true c.loop-post.invariant (rw c.if-is_slot_of.false at c.is_slot_of.ensures)

pub returns : goal.returns
returns g c = nowhere_all c.args.slots.now.slots c.args.step c.args.posts.now c.loop-post.post-index c.loop-post-test.false c.loop-post.invariant
