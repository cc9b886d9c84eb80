use Rattle.std.proofs.Common.{rules, ◌≡◌, ◌≤◌, ltb, ltb-true, ltb-false, length, get_or, ap, ◌∙◌, arith}
use Rattle.std.proofs.lemmas.Bool.{eqb-false}
use Rattle.std.proofs.lemmas.List.{get_or_default}
use Rattle.std.proofs.lemmas.List.Sorted.{IsPartitionPoint-from_clause, IsPartitionedBy-ltb}
use Rattle.ups_events.specs.declared.slots.EventSlot.{EventSlot}
use Rattle.ups_events.proofs.Orders.{none_at, none_lives}
use Rattle.ups_events.proofs.slots.is_among.Goals as goal

pub returns-in-Some : goal.returns-in-Some
returns-in-Some g c differs =
    let items = c.args.slots.now.items in
    let parted = IsPartitionedBy-ltb (λ (s : EventSlot). s.event.entry) items c.args.entry c.requires in
    let point = IsPartitionPoint-from_clause (λ (s : EventSlot). ltb s.event.entry c.args.entry) items _ c.partition_point-place.ensures.partitioned parted (λ a r q k. search rules) in
    let is : c.in-Some.slot.now ≡ get_or items c.partition_point-place.result c.in-Some.slot.now = search rules in
    none_lives c.args.entry items
    (none_at items c.args.entry c.partition_point-place.result c.requires (λ i d a l. ltb-true _ _ (point.0 i d (omega arith) a)) (λ i d a l. ltb-false _ _ (point.1 i d a l))
    (λ d within same. eqb-false _ _ differs (ap (λ (s : EventSlot). s.event.entry) (is ∙ get_or_default items c.partition_point-place.result c.in-Some.slot.now d within) ∙ same)))

pub returns-in-None : goal.returns-in-None
returns-in-None g c e =
    let items = c.args.slots.now.items in
    let parted = IsPartitionedBy-ltb (λ (s : EventSlot). s.event.entry) items c.args.entry c.requires in
    let point = IsPartitionPoint-from_clause (λ (s : EventSlot). ltb s.event.entry c.args.entry) items _ c.partition_point-place.ensures.partitioned parted (λ a r q k. search rules) in
    let past : length items ≤ c.partition_point-place.result = search rules in
    none_lives c.args.entry items
    (none_at items c.args.entry c.partition_point-place.result c.requires (λ i d a l. ltb-true _ _ (point.0 i d (omega arith) a)) (λ i d a l. ltb-false _ _ (point.1 i d a l)) (λ d within. absurd (omega (arith, past, within))))
