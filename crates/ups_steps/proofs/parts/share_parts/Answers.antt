use Rattle.std.proofs.Common.{arith}
use Rattle.ups_steps.specs.Held.{attributes_held}
use Rattle.ups_steps.specs.Places.{held_in}
use Rattle.ups_steps.proofs.Covering.{next_part}
use Rattle.ups_steps.proofs.parts.share_parts.Goals as goal

pub loop-k-preserved : goal.loop-k-preserved
loop-k-preserved g c = record {
  rows = next_part c.loop-k.k c.args.places.now.entries c.loop-k.shared.items c.push.new.self.items c.in_ok-share_part.field-0 (attributes_held (held_in c.args.places.now.entries)) c.in_ok-push.ensures.items
      c.in_ok-share_part.ensures.part c.loop-k.invariant.rows;
  covers = c.share_part.ensures.covers;
  next = omega (arith, c.in_ok-share_part.ensures.more);
}
