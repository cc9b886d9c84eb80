use Rattle.std.proofs.Common.{rules, arith, ◌≡◌, ◌+◌, subst, refl, map}
use Rattle.std.proofs.lemmas.Result.{err_from_is_err_and}
use Rattle.ups_pdu.specs.declared.syntax.TransferSyntax.{TransferSyntax}
use Rattle.ups_dataset.specs.Data.{bytes, items}
use Rattle.ups_dataset.specs.Head.{rest_behind}
use Rattle.ups_dataset.specs.View.{element_view, value_view}
use Rattle.ups_dataset.specs.Building.{BuildsItems}
use Rattle.ups_dataset.specs.Failing.{ElementsFail, ValueFails, ItemsFail, at_head, in_value, in_items, at_item, in_item}
use Rattle.ups_dataset.proofs.Goods.{known_length, known_bytes, known_shorter, mark_shorter, data_shorter, elements_shorter, spans_shorter, elements_left, items_left, bytes_data}
use Rattle.ups_dataset.proofs.Growing.{grow_by, grow_item, grown, grown_set, grown_items}
use Rattle.ups_dataset.proofs.Whole.{or_memory, surely}
use Rattle.ups_dataset.proofs.building.+building.Goals as goal

pub items_of-returns-in-Some : goal.items_of-returns-in-Some
items_of-returns-in-Some g t c = rw c.trim.ensures.same (grown_items _ _ _ _ _ _ _ c.in-Some.ensures c.loop-end.invariant)

pub items_of-returns-in_err-len : goal.items_of-returns-in_err-len
items_of-returns-in_err-len g t c =
    let p = err_from_is_err_and c.from_residual-in_err-len.result c.from_residual-in_err-len.ensures.1 in
    rw (p.1, p.2) (surely (ItemsFail c.args.syntax c.args.level c.args.reach c.args.text.now) _ (c.loop-end.invariant.fails _ (at_item _ _ _ _ _ c.in_default.ensures c.in_err-len.ensures)))

pub items_of-returns-in_err-built : goal.items_of-returns-in_err-built
items_of-returns-in_err-built g t c =
    let p = err_from_is_err_and c.from_residual-in_err-built.result c.from_residual-in_err-built.ensures.1 in
    rw (p.1, p.2) (or_memory (ElementsFail c.args.syntax (c.args.level + 1) c.opened-within.result.0 0 c.opened-within.result.1.now) (ItemsFail c.args.syntax c.args.level c.args.reach c.args.text.now) c.in_err-built.field-0.0
    (λ f h. c.loop-end.invariant.fails f (in_item _ _ _ _ _ _ _ _ _ c.in_default.ensures c.in_ok-len.ensures c.opened-within.ensures.opens h)) c.in_err-built.ensures)

pub items_of-loop-end-smaller : goal.items_of-loop-end-smaller
items_of-loop-end-smaller g t c = rw c.rest_behind-rest.ensures (omega (
  arith,
  mark_shorter _ _ _ _ c.in_ok-len.ensures.head,
  spans_shorter c.in_ok-len.len c.in_ok-len.after.now c.opened-within.result.0 c.opened-within.result.1.now c.in_ok-built.built.1.now (rest_behind c.opened-within.result.0 c.in_ok-built.built.1.now c.opened-within.result.2.now)
      (c.opened-within.ensures.spans c.in_ok-built.built.1.now (elements_left c.args.syntax (c.args.level + 1) c.opened-within.result.0 0 c.opened-within.result.1.now c.in_ok-built.ensures.all c.in_ok-built.built.1.now c.in_ok-built.ensures.spelled))
      (elements_shorter c.args.syntax (c.args.level + 1) c.opened-within.result.0 0 c.opened-within.result.1.now c.in_ok-built.ensures.all c.in_ok-built.built.1.now c.in_ok-built.ensures.spelled),
))

pub items_of-loop-end-preserved : goal.items_of-loop-end-preserved
items_of-loop-end-preserved g t c = rw (c.rest_behind-rest.ensures, c.in_ok-keep_item.ensures.kept)
    (grow_item c.args.syntax c.args.level c.args.reach c.args.text.now c.loop-end.rest.now c.loop-end.sets.items c.in_ok-len.len c.in_ok-len.after.now c.opened-within.result.0 c.opened-within.result.1.now c.in_ok-built.built.1.now (rest_behind c.opened-within.result.0 c.in_ok-built.built.1.now c.opened-within.result.2.now) c.in_ok-built.built.0
    c.in_default.ensures c.in_ok-len.ensures (c.opened-within.ensures.spans c.in_ok-built.built.1.now (elements_left c.args.syntax (c.args.level + 1) c.opened-within.result.0 0 c.opened-within.result.1.now c.in_ok-built.ensures.all c.in_ok-built.built.1.now c.in_ok-built.ensures.spelled)) c.in_ok-built.ensures c.loop-end.invariant)

pub set_of-from_vec-requires : goal.set_of-from_vec-requires
set_of-from_vec-requires g t c = rw c.trim.ensures.same (grown_set c.args.syntax c.args.level c.args.reach c.args.text.now c.loop-end.from c.loop-end.rest.now (map element_view c.loop-end.elements.items) c.in-Some.end.now c.requires c.in-Some.ensures c.loop-end.invariant)

pub set_of-returns-in-Some : goal.set_of-returns-in-Some
set_of-returns-in-Some g t c = rw (c.from_vec.ensures, c.trim.ensures.same) (grown _ _ _ _ _ _ _ _ c.in-Some.ensures c.loop-end.invariant)

pub set_of-returns-in_err-tag : goal.set_of-returns-in_err-tag
set_of-returns-in_err-tag g t c =
    let p = err_from_is_err_and c.from_residual-in_err-tag.result c.from_residual-in_err-tag.ensures.1 in
    rw (p.1, p.2) (surely (ElementsFail c.args.syntax c.args.level c.args.reach 0 c.args.text.now) _ (c.loop-end.invariant.fails _ (at_head _ _ _ _ _ _ c.in_default.ensures c.in_err-tag.ensures)))

pub set_of-value_of-requires : goal.set_of-value_of-requires
set_of-value_of-requires g t c = λ κs within. (omega (arith, c.decreases, c.loop-end.invariant.left, known_shorter _ _ _ _ _ _ _ c.in_ok-tag.ensures), (within, (c.requires, (known_length _ _ _ _ _ _ _ c.in_ok-tag.ensures, known_bytes _ _ _ _ _ _ _ c.in_ok-tag.ensures))))

pub set_of-returns-in_err-value : goal.set_of-returns-in_err-value
set_of-returns-in_err-value g t c =
    let p = err_from_is_err_and c.from_residual-in_err-value.result c.from_residual-in_err-value.ensures.1 in
    rw (p.1, p.2) (or_memory (ValueFails c.args.syntax c.args.level c.in_ok-tag.vr c.in_ok-tag.len c.in_ok-tag.after.now) (ElementsFail c.args.syntax c.args.level c.args.reach 0 c.args.text.now) c.in_err-value.field-0.0
    (λ f h. c.loop-end.invariant.fails f (in_value _ _ _ _ _ _ _ _ _ _ c.in_default.ensures c.in_ok-tag.ensures h)) c.in_err-value.ensures)

pub set_of-loop-end-smaller : goal.set_of-loop-end-smaller
set_of-loop-end-smaller g t c = omega (
  arith,
  known_shorter _ _ _ _ _ _ _ c.in_ok-tag.ensures,
  data_shorter c.args.syntax c.args.level c.in_ok-tag.vr c.in_ok-tag.len c.in_ok-tag.after.now c.in_ok-value.vr c.in_ok-value.ensures.all c.in_ok-value.next.now c.in_ok-value.ensures.spelled,
)

pub set_of-loop-end-preserved : goal.set_of-loop-end-preserved
set_of-loop-end-preserved g t c = rw (c.from-from.ensures, c.number.ensures, c.in_ok-keep.ensures.kept)
    (grow_by c.args.syntax c.args.level c.args.reach c.args.text.now c.loop-end.from c.loop-end.rest.now (map element_view c.loop-end.elements.items) c.in_ok-tag.tag c.in_ok-tag.vr c.in_ok-tag.len c.in_ok-tag.after.now (value_view c.in_ok-value.value) c.in_ok-value.vr c.in_ok-value.next.now c.in_default.ensures c.in_ok-tag.ensures c.in_ok-value.ensures c.loop-end.invariant)

pub value_of-returns-then-not-is_sequence : goal.value_of-returns-then-not-is_sequence
value_of-returns-then-not-is_sequence g t c =
    let e : c.in_ok-copy_of.field-0 ≡ c.split_at.result.0.now = c.in_ok-copy_of.ensures in
    rw e (record { all = bytes c.split_at.result.0.now; spelled = bytes_data c.args.syntax c.args.level c.args.vr c.args.len c.args.after.now c.split_at.result.0.now c.split_at.result.1.now (search rules) (c.requires.bytes (search rules)) c.requires.fits (search rules) (search rules); is = refl })

pub value_of-returns-in_err-built : goal.value_of-returns-in_err-built
value_of-returns-in_err-built g t c =
    let p = err_from_is_err_and c.from_residual-in_err-built.result c.from_residual-in_err-built.ensures.1 in
    rw (p.1, p.2) (or_memory (ItemsFail c.inside.result c.args.level c.opened-reach.result.0 c.opened-reach.result.1.now) (ValueFails c.args.syntax c.args.level c.args.vr c.args.len c.args.after.now) c.in_err-built.field-0.0
    (λ f h. in_items c.args.syntax c.args.level c.args.vr c.args.len c.args.after.now f c.opened-reach.result.0 c.opened-reach.result.1.now (search rules) c.opened-reach.ensures.opens (subst (λ (s : TransferSyntax). ItemsFail s c.args.level c.opened-reach.result.0 c.opened-reach.result.1.now f) c.inside.ensures h)) c.in_err-built.ensures)

pub value_of-returns : goal.value_of-returns
value_of-returns g t c =
    let b : BuildsItems _ c.args.level c.opened-reach.result.0 c.opened-reach.result.1.now c.in_ok-built.built.0.items c.in_ok-built.built.1.now = subst (λ (s : TransferSyntax). BuildsItems s c.args.level c.opened-reach.result.0 c.opened-reach.result.1.now c.in_ok-built.built.0.items c.in_ok-built.built.1.now) c.inside.ensures c.in_ok-built.ensures in
    rw (c.of_items.ensures, c.rest_behind.ensures) (record {
      all = items b.all;
      spelled = (search rules, refl, c.opened-reach.result.0, c.opened-reach.result.1.now, c.in_ok-built.built.1.now, c.opened-reach.ensures.spans c.in_ok-built.built.1.now (items_left _ c.args.level c.opened-reach.result.0 c.opened-reach.result.1.now b.all c.in_ok-built.built.1.now b.spelled), b.spelled);
      is = λ i. items (b.is i);
    })
