use Rattle.std.proofs.Common.{rules, arith, sym, ap, ◌∙◌, subst, refl}
use Rattle.ups_events.specs.Queue.{QueueView, above}
use Rattle.ups_events.specs.Kept.{lives, Rising, InOrder}
use Rattle.ups_events.proofs.Orders.{order_dropped}
use Rattle.ups_events.proofs.SlotLists.{dropped_rising, lives_dropped}
use Rattle.ups_events.proofs.queue.Queue.ack.Goals as goal

pub invariant_of-self : goal.invariant_of-self
invariant_of-self g c =
    let inside = c.self.inside in
    let k = c.drop_front.ensures.keeps inside.made inside.acked c.self.invariant.0 in
    (record { rising = subst (Rising c.args.upto) (sym c.drop_front.ensures.slots) (dropped_rising c.args.upto inside.acked inside.slots.items c.self.invariant.0.rising); up_to = k.up_to; indexed = k.indexed }, search rules, λ known. subst InOrder (sym c.drop_front.ensures.slots) (order_dropped c.args.upto inside.slots.items (c.self.invariant.2 known)), let gone = c.drop_front.ensures.count in let was = c.self.invariant.3 in omega (arith, gone, was))

pub returns-clause-acked : goal.returns-clause-acked
returns-clause-acked g c =
    let inside = c.self.inside in
    record {
      made = ap (λ (s : QueueView). s.made) c.self.view_is;
      acked = refl;
      events = ap lives c.drop_front.ensures.slots ∙ lives_dropped c.args.upto inside.acked inside.slots.items c.self.invariant.0.rising ∙ ap (λ (s : QueueView). above c.args.upto s.events) c.self.view_is;
      spare = let seen_spare = ap (λ (s : QueueView). s.spare) c.self.view_is in omega (arith, seen_spare, c.drop_front.ensures.len, c.drop_front.ensures.capacity, c.drop_front.ensures.spare);
    }
