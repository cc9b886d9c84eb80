use Rattle.std.proofs.Common.{rules, map, sym, ◌∙◌}
use Rattle.std.proofs.lemmas.List.{take_all}
use Rattle.ups_dataset.specs.Data.{is_listed}
use Rattle.ups_dataset.specs.View.{element_view}
use Rattle.ups_dataset.proofs.Keeping.{kept, left}
use Rattle.ups_dataset.proofs.Places.{filtered}
use Rattle.ups_dataset.proofs.set.DataSet.project.Goals as goal
use Rattle.ups_dataset.proofs.set.DataSet.project.Goals.{then-is_listed+in_ok-copy_element+in_ok-push, else-is_listed}

pub loop-element-preserved : goal.loop-element-preserved
loop-element-preserved g c = elim c.if-is_listed.branch [
  | then-is_listed+in_ok-copy_element+in_ok-push w ↦
      rw w.elements-is (kept element_view (λ e. is_listed e.tag c.args.tags.now) c.deref-element-items.result.now c.loop-element.elements.items w.push.new.self.items c.loop-element.element-index c.element-item.result w.in_ok-copy_element.field-0
      (search rules) (search rules) c.loop-element.invariant w.in_ok-push.ensures.items w.in_ok-copy_element.ensures (sym (c.is_listed.ensures c.args.tags.now (search rules)) ∙ w.if-is_listed.true))
  | else-is_listed w ↦
      rw w.elements-is (left element_view (λ e. is_listed e.tag c.args.tags.now) c.deref-element-items.result.now c.loop-element.elements.items c.loop-element.element-index c.element-item.result
      (search rules) (search rules) c.loop-element.invariant (sym (c.is_listed.ensures c.args.tags.now (search rules)) ∙ w.if-is_listed.false))
]

pub from_vec-requires : goal.from_vec-requires
from_vec-requires g c =
    rw (c.loop-element.invariant, take_all c.loop-element.element-index c.deref-element-items.result.now c.loop-element-test.false, c.deref-element-items.ensures.value)
    (filtered (λ e. is_listed e.tag c.args.tags.now) 0 (map element_view c.self.inside.elements.items) c.self.invariant.is)

pub returns : goal.returns
returns g c =
    rw (c.from_vec.ensures, c.loop-element.invariant, take_all c.loop-element.element-index c.deref-element-items.result.now c.loop-element-test.false, c.deref-element-items.ensures.value) (search rules)
