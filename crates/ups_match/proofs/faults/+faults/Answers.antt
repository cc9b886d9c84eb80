use Rattle.std.proofs.Common.{w16, arith, rules, sym, ◌∙◌}
use Rattle.std.proofs.lemmas.Int.{to_z-of_z}
use Rattle.ups_match.proofs.KeyWalks.{element_weight, many_fail, fault_here}
use Rattle.ups_match.proofs.faults.+faults.Goals as goal

pub items_fault-returns-then-sets-gt1 : goal.items_fault-returns-then-sets-gt1
items_fault-returns-then-sets-gt1 g t c = sym (many_fail c.args.offset c.args.sets.now c.if-sets-gt1.true)

pub keys_fault-key_fault-requires : goal.keys_fault-key_fault-requires
keys_fault-key_fault-requires g t c = λ κs within. (omega (arith, c.decreases, element_weight c.elements-key-items.result.now c.args.keys.now c.loop-key.key-index c.key-item.result c.elements-key-items.ensures (search rules) c.key-item.is), within)

pub keys_fault-returns-in-Some : goal.keys_fault-returns-in-Some
keys_fault-returns-in-Some g t c = fault_here c.args.offset c.elements-key-items.result.now c.loop-key.key-index c.key-item.result c.in-Some.fault c.loop-key-test.true c.key-item.is (rw (to_z-of_z w16 c.args.offset c.ranges.offset) at c.in-Some.ensures) ∙ (rw (to_z-of_z w16 c.args.offset c.ranges.offset) at c.loop-key.invariant)
