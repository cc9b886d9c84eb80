use Rattle.std.proofs.Common.{rules, ◌≡◌, ◌<◌, ◌≤◌, ltb, ltb-true, ltb-false, length, get_or, set, ap, ◌∙◌, arith}
use Rattle.std.proofs.lemmas.List.{set-get_or}
use Rattle.std.proofs.lemmas.List.Sorted.{IsPartitionPoint-from_clause, IsPartitionedBy-ltb}
use Rattle.ups_events.specs.declared.slots.EventSlot.{EventSlot}
use Rattle.ups_events.proofs.Spending.{rises_by, none_spent, one_spent, none_but_here, none_at_all, none_if_not_here}
use Rattle.ups_events.specs.Kept.{lives}
use Rattle.ups_events.proofs.SlotLists.{count_set}
use Rattle.ups_events.proofs.slots.spend.Goals as goal

pub returns-then-is_report_of-clause-slots : goal.returns-then-is_report_of-clause-slots
returns-then-is_report_of-clause-slots g c =
    let parted = IsPartitionedBy-ltb (λ (s : EventSlot). s.event.number) c.args.slots.now.items c.args.number (rises_by c.args.slots.now.items c.requires.rises) in
    let point = IsPartitionPoint-from_clause (λ (s : EventSlot). ltb s.event.number c.args.number) c.args.slots.now.items _ c.partition_point-place.ensures.partitioned parted (λ a r q k. search rules) in
    let within : c.partition_point-place.result < length c.args.slots.now.items = search rules in
    one_spent c.args.step c.args.slots.now.items c.partition_point-place.result c.in-Some.slot.now
    (none_but_here c.args.step c.args.number c.args.slots.now.items c.requires.rises c.partition_point-place.result c.requires.alone (λ i d a l. ltb-true _ _ (point.0 i d (omega arith) a)) (λ i d a l. ltb-false _ _ (point.1 i d a l)))
    (search rules) within (search rules)

pub returns-else-is_report_of-clause-slots : goal.returns-else-is_report_of-clause-slots
returns-else-is_report_of-clause-slots g c =
    let parted = IsPartitionedBy-ltb (λ (s : EventSlot). s.event.number) c.args.slots.now.items c.args.number (rises_by c.args.slots.now.items c.requires.rises) in
    let point = IsPartitionPoint-from_clause (λ (s : EventSlot). ltb s.event.number c.args.number) c.args.slots.now.items _ c.partition_point-place.ensures.partitioned parted (λ a r q k. search rules) in
    let within : c.partition_point-place.result < length c.args.slots.now.items = search rules in
    let is : c.in-Some.slot.now ≡ get_or c.args.slots.now.items c.partition_point-place.result c.in-Some.slot.now = search rules in
    ap (set c.args.slots.now.items c.partition_point-place.result) is ∙ set-get_or c.args.slots.now.items c.partition_point-place.result c.in-Some.slot.now ∙ none_spent c.args.step c.args.slots.now.items
    (none_if_not_here c.args.step c.args.number c.args.slots.now.items c.requires.rises c.partition_point-place.result c.requires.alone (λ i d a l. ltb-true _ _ (point.0 i d (omega arith) a)) (λ i d a l. ltb-false _ _ (point.1 i d a l)) c.in-Some.slot.now is within (search rules))

pub returns-in_default-clause-slots : goal.returns-in_default-clause-slots
returns-in_default-clause-slots g c =
    let parted = IsPartitionedBy-ltb (λ (s : EventSlot). s.event.number) c.args.slots.now.items c.args.number (rises_by c.args.slots.now.items c.requires.rises) in
    let point = IsPartitionPoint-from_clause (λ (s : EventSlot). ltb s.event.number c.args.number) c.args.slots.now.items _ c.partition_point-place.ensures.partitioned parted (λ a r q k. search rules) in
    let past : length c.args.slots.now.items ≤ c.partition_point-place.result = search rules in
    none_spent c.args.step c.args.slots.now.items
    (none_at_all c.args.step c.args.number c.args.slots.now.items c.requires.rises c.partition_point-place.result c.requires.alone (λ i d a l. ltb-true _ _ (point.0 i d (omega arith) a)) (λ i d a l. ltb-false _ _ (point.1 i d a l)) past)

pub returns-then-is_report_of-clause-count : goal.returns-then-is_report_of-clause-count
returns-then-is_report_of-clause-count g c =
    let within : c.partition_point-place.result < length c.args.slots.now.items = search rules in
    let is : c.in-Some.slot.now ≡ get_or c.args.slots.now.items c.partition_point-place.result c.in-Some.slot.now = search rules in
    count_set c.args.slots.now.items c.partition_point-place.result c.in-Some.slot.now within is

pub returns-else-is_report_of-clause-count : goal.returns-else-is_report_of-clause-count
returns-else-is_report_of-clause-count g c =
    let is : c.in-Some.slot.now ≡ get_or c.args.slots.now.items c.partition_point-place.result c.in-Some.slot.now = search rules in
    let same = ap (λ ss. length (lives ss)) (ap (set c.args.slots.now.items c.partition_point-place.result) is ∙ set-get_or c.args.slots.now.items c.partition_point-place.result c.in-Some.slot.now) in
    omega (arith, same)
