use Rattle.std.proofs.Common.{rules, arith, ◌≡◌, ◌+◌, ◌++◌, ◌∷◌, [], true, length, length-append, sym, ap, ◌∙◌, subst, refl}
use Rattle.ups_life.specs.declared.event.Event.{Event}
use Rattle.ups_events.specs.declared.slots.EventSlot.{EventSlot}
use Rattle.ups_events.specs.Queue.{QueueView, added}
use Rattle.ups_events.specs.Telling.{event_of}
use Rattle.ups_events.specs.Kept.{lives, made_way, dropped, InOrder, KeepsQueue}
use Rattle.ups_events.proofs.Orders.{order_made_way, order_dropped, order_tidy}
use Rattle.ups_events.proofs.SlotLists.{rises_from, put_keeps, tidy_keeps, lives_dropped, all_above, lives_put, lives_push, lives_tidy, count_within}
use Rattle.ups_events.proofs.queue.Queue.put.Goals as goal

pub make_way-superseded-requires-clause-rises : goal.make_way-superseded-requires-clause-rises
make_way-superseded-requires-clause-rises g c = rises_from c.self.inside.acked c.self.inside.slots.items c.self.invariant.0.rising

pub keeps_order-requires : goal.keeps_order-requires
keeps_order-requires g c known = subst InOrder (sym c.make_way-superseded.ensures.slots) (order_made_way c.args.report.kind c.args.report.step c.self.inside.slots.items (c.self.invariant.2 known))

pub live_with-requires-clause-few : goal.live_with-requires-clause-few
live_with-requires-clause-few g c = let most = count_within c.self.inside.slots.items in let was = c.self.invariant.3 in search (rules, most, was)

pub invariant_of-self : goal.invariant_of-self
invariant_of-self g c =
    let inside = c.self.inside in
    let event : Event = event_of (inside.made + 1) c.args.entry c.args.report in
    let slot : EventSlot = record { event = event; live = true } in
    let items : c.push_back_reserved.new.self.items ≡ made_way c.args.report.kind c.args.report.step inside.slots.items ++ slot ∷ [] = c.push_back_reserved.ensures.items ∙ ap (λ xs. xs ++ slot ∷ []) c.make_way-superseded.ensures.slots in
    let k = put_keeps inside.made inside.acked inside.index.entries c.make_way-superseded.new.index.entries inside.slots.items slot c.self.invariant.1 refl c.make_way-superseded.ensures.index c.self.invariant.0 in
    let l = c.drop_front.ensures.keeps (inside.made + 1) inside.acked (subst (KeepsQueue (inside.made + 1) inside.acked c.make_way-superseded.new.index.entries) (sym items) k) in (
      tidy_keeps c.drop_front.new.slots.items c.tidy.new.slots.items c.tidy.ensures.slots (inside.made + 1) inside.acked c.drop_front.new.index.entries l,
      omega (arith, c.self.invariant.1),
      λ known. order_tidy c.drop_front.new.slots.items c.tidy.new.slots.items c.tidy.ensures.slots
          (subst InOrder (sym (c.drop_front.ensures.slots ∙ ap (dropped inside.acked) c.push_back_reserved.ensures.items)) (order_dropped inside.acked (c.make_way-superseded.new.slots.items ++ slot ∷ []) (c.keeps_order.ensures known slot refl))),
      (
          let r : KeepsQueue (inside.made + 1) inside.acked c.make_way-superseded.new.index.entries c.push_back_reserved.new.self.items = subst (KeepsQueue (inside.made + 1) inside.acked c.make_way-superseded.new.index.entries) (sym items) k in
          let left : lives c.tidy.new.slots.items ≡ lives c.make_way-superseded.new.slots.items ++ event ∷ [] =
          lives_tidy c.drop_front.new.slots.items c.tidy.new.slots.items c.tidy.ensures.slots ∙ ap lives c.drop_front.ensures.slots
          ∙ lives_dropped inside.acked inside.acked c.push_back_reserved.new.self.items r.rising ∙ all_above inside.acked inside.acked c.push_back_reserved.new.self.items (omega arith) r.rising ∙ ap lives c.push_back_reserved.ensures.items
          ∙ lives_push c.make_way-superseded.new.slots.items slot refl in
          let many = ap length left ∙ length-append (lives c.make_way-superseded.new.slots.items) (event ∷ []) in
          let way = c.make_way-superseded.ensures.count in
          let with = c.live_with.ensures in
          let was = c.self.invariant.3 in
          omega (arith, many, way, with, was)
          ),
    )

pub returns : goal.returns
returns g c =
    let inside = c.self.inside in
    let event : Event = event_of (inside.made + 1) c.args.entry c.args.report in
    let slot : EventSlot = record { event = event; live = true } in
    let items : c.push_back_reserved.new.self.items ≡ made_way c.args.report.kind c.args.report.step inside.slots.items ++ slot ∷ [] = c.push_back_reserved.ensures.items ∙ ap (λ xs. xs ++ slot ∷ []) c.make_way-superseded.ensures.slots in
    let k = put_keeps inside.made inside.acked inside.index.entries c.make_way-superseded.new.index.entries inside.slots.items slot c.self.invariant.1 refl c.make_way-superseded.ensures.index c.self.invariant.0 in
    let r : KeepsQueue (inside.made + 1) inside.acked c.make_way-superseded.new.index.entries c.push_back_reserved.new.self.items = subst (KeepsQueue (inside.made + 1) inside.acked c.make_way-superseded.new.index.entries) (sym items) k in
    let seen_made = ap (λ (s : QueueView). s.made) c.self.view_is in
    let seen_events = ap (λ (s : QueueView). s.events) c.self.view_is in
    let seen_spare = ap (λ (s : QueueView). s.spare) c.self.view_is in
    let events : lives c.tidy.new.slots.items ≡ added (lives inside.slots.items) event =
    lives_tidy c.drop_front.new.slots.items c.tidy.new.slots.items c.tidy.ensures.slots ∙ ap lives c.drop_front.ensures.slots
    ∙ lives_dropped inside.acked inside.acked c.push_back_reserved.new.self.items r.rising ∙ all_above inside.acked inside.acked c.push_back_reserved.new.self.items (omega arith) r.rising ∙ ap lives items ∙ lives_put inside.slots.items slot refl in
    record {
      made = ap (λ n. n + 1) seen_made;
      number = ap (λ n. n + 1) (sym seen_made);
      acked = ap (λ (s : QueueView). s.acked) c.self.view_is;
      events = events ∙ ap (λ xs. added xs event) seen_events ∙ ap (λ n. added c.args.self.now.events (event_of (n + 1) c.args.entry c.args.report)) seen_made;
      spare = omega (arith, seen_spare, c.push_back_reserved.ensures.len, c.push_back_reserved.ensures.capacity, c.make_way-superseded.ensures.len, c.make_way-superseded.ensures.capacity, c.make_way-superseded.ensures.spare, c.drop_front.ensures.len, c.drop_front.ensures.capacity, c.drop_front.ensures.spare, c.tidy.ensures.len, c.tidy.ensures.capacity);
    }
