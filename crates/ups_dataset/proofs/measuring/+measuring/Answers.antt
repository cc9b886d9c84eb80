use Rattle.std.proofs.Common.{map}
use Rattle.std.proofs.lemmas.List.{take_all}
use Rattle.ups_dataset.specs.Data.{elements_of}
use Rattle.ups_dataset.specs.View.{element_view}
use Rattle.ups_dataset.proofs.Depths.{within, depth_more, depth_more_items}
use Rattle.ups_dataset.proofs.measuring.+measuring.Goals as goal

pub set_depth-loop-element-preserved : goal.set_depth-loop-element-preserved
set_depth-loop-element-preserved g t c =
    rw c.max-deepest.ensures (depth_more c.deref-element-items.result.now c.loop-element.element-index c.element-item.result c.loop-element.deepest c.value_depth.result c.loop-element-test.true c.element-item.is c.loop-element.invariant c.value_depth.ensures)

pub set_depth-returns-clause-fits : goal.set_depth-returns-clause-fits
set_depth-returns-clause-fits g t c =
    rw (c.loop-element.invariant, take_all c.loop-element.element-index c.deref-element-items.result.now c.loop-element-test.false, c.deref-element-items.ensures.value)
    (within 0 (elements_of (map element_view c.set.inside.elements.items)) c.set.invariant.is)

pub value_depth-loop-set-preserved : goal.value_depth-loop-set-preserved
value_depth-loop-set-preserved g t c =
    rw c.max-deepest.ensures (depth_more_items c.deref-set-items.result.now c.loop-set.set-index c.set-item.result c.loop-set.deepest c.set_depth.result c.loop-set-test.true c.set-item.is c.loop-set.invariant c.set_depth.ensures.depth)
