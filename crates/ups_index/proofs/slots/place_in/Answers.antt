use Rattle.std.proofs.Common.{subst, sym}
use Rattle.ups_index.proofs.Placed.{LeadsNowhere, nowhere_first, nowhere_none}
use Rattle.ups_index.proofs.slots.place_in.Goals as goal

pub loop-post-init : goal.loop-post-init
loop-post-init g c = subst (LeadsNowhere c.args.slots.now.slots c.args.step) c.into_iter-post-iterator.ensures.into_iter_gives

pub loop-post-preserved : goal.loop-post-preserved
loop-post-preserved g c = λ h.
    c.loop-post.invariant (subst (LeadsNowhere c.args.slots.now.slots c.args.step) (sym c.in-Some.ensures.steps) (nowhere_first c.args.slots.now.slots c.args.step c.in-Some.post.now c.next.new.self c.if-is_slot_of.ensures h))

pub returns : goal.returns
returns g c = c.loop-post.invariant (subst (LeadsNowhere c.args.slots.now.slots c.args.step) (sym c.in-None.ensures.steps.0) (nowhere_none c.args.slots.now.slots c.args.step))
