use Rattle.std.proofs.Common.{rules, arith}
use Rattle.ups_dataset.proofs.Sizes.{put_elements, put_items, element_small, item_small, element_weight, item_weight}
use Rattle.ups_dataset.proofs.writing.+putting.Goals as goal

pub put_set-put_element-requires : goal.put_set-put_element-requires
put_set-put_element-requires g t c = λ κs within. (omega (arith, c.decreases, element_weight c.deref-element-items.result.now c.args.set.now c.loop-element.element-index c.element-item.result (search rules) (search rules) c.element-item.is), (within, element_small c.args.syntax c.deref-element-items.result.now c.args.set.now c.loop-element.element-index c.element-item.result (search rules) c.requires (search rules) c.element-item.is))

pub put_set-returns : goal.put_set-returns
put_set-returns g t c = put_elements c.args.syntax c.loop-element.out.items c.args.out.now.items c.loop-element.element-index c.deref-element-items.result.now c.args.set.now (search rules) (search rules) c.loop-element.invariant

pub put_items-put_item-requires : goal.put_items-put_item-requires
put_items-put_item-requires g t c = λ κs within. (omega (arith, c.decreases, item_weight c.args.sets.now c.loop-set.set-index c.set-item.result (search rules) (search rules)), (within, item_small c.args.syntax c.args.sets.now c.loop-set.set-index c.set-item.result c.requires (search rules) (search rules)))

pub put_items-returns : goal.put_items-returns
put_items-returns g t c = put_items c.args.syntax c.loop-set.out.items c.args.out.now.items c.loop-set.set-index c.args.sets.now (search rules) c.loop-set.invariant
