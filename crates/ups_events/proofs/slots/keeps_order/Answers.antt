use Rattle.std.proofs.Common.{rules, ◌≡◌, ◌-◌, length, get_or, arith, leb-true}
use Rattle.ups_events.proofs.Orders.{order_push}
use Rattle.ups_events.proofs.slots.keeps_order.Goals as goal

pub returns-then-in_order : goal.returns-then-in_order
returns-then-in_order g c within s same =
    let last : c.in-Some.last.now ≡ get_or c.args.slots.now.items (length c.args.slots.now.items - 1) c.in-Some.last.now = search rules in
    let below = leb-true _ _ within in
    order_push c.args.slots.now.items c.in-Some.last.now s (c.requires c.if-in_order.true) last (omega (arith, below, same))
