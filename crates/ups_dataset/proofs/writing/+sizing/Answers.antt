use Rattle.std.proofs.Common.{rules, arith}
use Rattle.ups_dataset.proofs.Sizes.{all_elements, all_items, element_weight, item_weight}
use Rattle.ups_dataset.proofs.writing.+sizing.Goals as goal

pub set_size-returns : goal.set_size-returns
set_size-returns g t c = all_elements c.args.syntax c.loop-element.total c.loop-element.element-index c.deref-element-items.result.now c.args.set.now (search rules) (search rules) c.loop-element.invariant

pub items_size-returns : goal.items_size-returns
items_size-returns g t c = all_items c.args.syntax c.loop-set.total c.loop-set.set-index c.args.sets.now (search rules) c.loop-set.invariant

pub set_size-element_size-requires : goal.set_size-element_size-requires
set_size-element_size-requires g t c = λ κs within. (omega (arith, c.decreases, element_weight c.deref-element-items.result.now c.args.set.now c.loop-element.element-index c.element-item.result (search rules) (search rules) c.element-item.is), within)

pub items_size-set_size-requires : goal.items_size-set_size-requires
items_size-set_size-requires g t c = λ κs within. (omega (arith, c.decreases, item_weight c.args.sets.now c.loop-set.set-index c.set-item.result (search rules) (search rules)), within)
