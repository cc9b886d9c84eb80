use Rattle.std.proofs.Common.{rules, map, not}
use Rattle.std.proofs.lemmas.List.{take_all}
use Rattle.ups_dataset.specs.Tag.{is_tag}
use Rattle.ups_dataset.specs.View.{element_view}
use Rattle.ups_dataset.proofs.Keeping.{kept, left}
use Rattle.ups_dataset.proofs.Places.{filtered}
use Rattle.ups_dataset.proofs.set.DataSet.without.Goals as goal
use Rattle.ups_dataset.proofs.set.DataSet.without.Goals.{then-ne+in_ok-copy_element+in_ok-push, else-ne}

pub loop-element-preserved : goal.loop-element-preserved
loop-element-preserved g c = elim c.if-ne.branch [
  | then-ne+in_ok-copy_element+in_ok-push w ↦
      rw w.elements-is (kept element_view (λ e. not (is_tag e.tag c.args.tag)) c.deref-element-items.result.now c.loop-element.elements.items w.push.new.self.items c.loop-element.element-index c.element-item.result w.in_ok-copy_element.field-0
      (search rules) (search rules) c.loop-element.invariant w.in_ok-push.ensures.items w.in_ok-copy_element.ensures (search rules))
  | else-ne w ↦
      rw w.elements-is (left element_view (λ e. not (is_tag e.tag c.args.tag)) c.deref-element-items.result.now c.loop-element.elements.items c.loop-element.element-index c.element-item.result
      (search rules) (search rules) c.loop-element.invariant (search rules))
]

pub from_vec-requires : goal.from_vec-requires
from_vec-requires g c =
    rw (c.loop-element.invariant, take_all c.loop-element.element-index c.deref-element-items.result.now c.loop-element-test.false, c.deref-element-items.ensures.value)
    (filtered (λ e. not (is_tag e.tag c.args.tag)) 0 (map element_view c.self.inside.elements.items) c.self.invariant.is)
