use Rattle.std.proofs.Common.{rules, arith, ◌+◌, subst, refl}
use Rattle.std.proofs.lemmas.Result.{err_from_is_err_and}
use Rattle.ups_dataset.specs.declared.vr.Vr.TheVariants.{Sq}
use Rattle.ups_pdu.specs.declared.syntax.TransferSyntax.{TransferSyntax}
use Rattle.ups_dataset.specs.Data.{bytes, items, no_elements, no_items}
use Rattle.ups_dataset.specs.Head.{rest_behind}
use Rattle.ups_dataset.specs.Spelling.{SpellsItems}
use Rattle.ups_dataset.specs.Failing.{ItemsFail, at_head, in_value, in_items, at_item, in_item}
use Rattle.ups_dataset.proofs.Goods.{known_length, known_bytes, known_shorter, mark_shorter, data_shorter, elements_shorter, spans_shorter, elements_left, items_left, bytes_data}
use Rattle.ups_dataset.proofs.Going.{go_element, go_item}
use Rattle.ups_dataset.proofs.passing.+passing.Goals as goal

pub elements_end-returns-in-Some : goal.elements_end-returns-in-Some
elements_end-returns-in-Some t c = c.loop-end.invariant.spelled no_elements c.in-Some.end.now c.in-Some.ensures

pub elements_end-returns-in_err-tag : goal.elements_end-returns-in_err-tag
elements_end-returns-in_err-tag t c =
    let p = err_from_is_err_and c.from_residual.result c.from_residual.ensures.1 in
    rw (p.1, p.2) (c.loop-end.invariant.fails _ (at_head _ _ _ _ _ _ c.in_default.ensures c.in_err-tag.ensures))

pub elements_end-value_end-requires : goal.elements_end-value_end-requires
elements_end-value_end-requires t c = (omega (arith, c.decreases, c.loop-end.invariant.left, known_shorter _ _ _ _ _ _ _ c.in_ok-tag.ensures), (c.requires, (known_length _ _ _ _ _ _ _ c.in_ok-tag.ensures, known_bytes _ _ _ _ _ _ _ c.in_ok-tag.ensures)))

pub elements_end-returns-in_err-rest : goal.elements_end-returns-in_err-rest
elements_end-returns-in_err-rest t c =
    let p = err_from_is_err_and c.from_residual-in_err-rest.result c.from_residual-in_err-rest.ensures.1 in
    rw (p.1, p.2) (c.loop-end.invariant.fails _ (in_value _ _ _ _ _ _ _ _ _ _ c.in_default.ensures c.in_ok-tag.ensures c.in_err-rest.ensures))

pub elements_end-loop-end-smaller : goal.elements_end-loop-end-smaller
elements_end-loop-end-smaller t c = omega (arith, known_shorter _ _ _ _ _ _ _ c.in_ok-tag.ensures, data_shorter c.args.syntax c.args.level c.in_ok-tag.vr c.in_ok-tag.len c.in_ok-tag.after.now c.in_ok-rest.ensures.0 c.in_ok-rest.ensures.1 c.in_ok-rest.rest.now c.in_ok-rest.ensures.2)

pub elements_end-loop-end-preserved : goal.elements_end-loop-end-preserved
elements_end-loop-end-preserved t c = rw (c.from-from.ensures, c.number.ensures) (go_element _ _ _ _ _ _ _ _ _ _ c.in_ok-rest.ensures.0 c.in_ok-rest.ensures.1 c.in_ok-rest.rest.now c.in_default.ensures c.in_ok-tag.ensures c.in_ok-rest.ensures.2 c.loop-end.invariant)

pub items_end-returns-in-Some : goal.items_end-returns-in-Some
items_end-returns-in-Some t c = c.loop-end.invariant.spelled no_items c.in-Some.end.now c.in-Some.ensures

pub items_end-returns-in_err-len : goal.items_end-returns-in_err-len
items_end-returns-in_err-len t c =
    let p = err_from_is_err_and c.from_residual.result c.from_residual.ensures.1 in
    rw (p.1, p.2) (c.loop-end.invariant.fails _ (at_item _ _ _ _ _ c.in_default.ensures c.in_err-len.ensures))

pub items_end-returns-in_err-left : goal.items_end-returns-in_err-left
items_end-returns-in_err-left t c =
    let p = err_from_is_err_and c.from_residual-in_err-left.result c.from_residual-in_err-left.ensures.1 in
    rw (p.1, p.2) (c.loop-end.invariant.fails _ (in_item _ _ _ _ _ _ _ _ _ c.in_default.ensures c.in_ok-len.ensures c.opened-within.ensures.opens c.in_err-left.ensures))

pub items_end-loop-end-smaller : goal.items_end-loop-end-smaller
items_end-loop-end-smaller t c = rw c.rest_behind-rest.ensures (omega (
  arith,
  mark_shorter _ _ _ _ c.in_ok-len.ensures.head,
  spans_shorter c.in_ok-len.len c.in_ok-len.after.now c.opened-within.result.0 c.opened-within.result.1.now c.in_ok-left.left.now (rest_behind c.opened-within.result.0 c.in_ok-left.left.now c.opened-within.result.2.now) (c.opened-within.ensures.spans c.in_ok-left.left.now (elements_left c.args.syntax (c.args.level + 1) c.opened-within.result.0 0 c.opened-within.result.1.now c.in_ok-left.ensures.0 c.in_ok-left.left.now c.in_ok-left.ensures.1)) (elements_shorter c.args.syntax (c.args.level + 1) c.opened-within.result.0 0 c.opened-within.result.1.now c.in_ok-left.ensures.0 c.in_ok-left.left.now c.in_ok-left.ensures.1),
))

pub items_end-loop-end-preserved : goal.items_end-loop-end-preserved
items_end-loop-end-preserved t c = rw c.rest_behind-rest.ensures (go_item c.args.syntax c.args.level c.args.reach c.args.text.now c.loop-end.rest.now c.in_ok-len.len c.in_ok-len.after.now c.opened-within.result.0 c.opened-within.result.1.now c.in_ok-left.left.now (rest_behind c.opened-within.result.0 c.in_ok-left.left.now c.opened-within.result.2.now) c.in_ok-left.ensures.0 c.in_default.ensures c.in_ok-len.ensures (c.opened-within.ensures.spans c.in_ok-left.left.now (elements_left c.args.syntax (c.args.level + 1) c.opened-within.result.0 0 c.opened-within.result.1.now c.in_ok-left.ensures.0 c.in_ok-left.left.now c.in_ok-left.ensures.1)) c.in_ok-left.ensures.1 c.loop-end.invariant)

pub value_end-returns-then-not-is_sequence : goal.value_end-returns-then-not-is_sequence
value_end-returns-then-not-is_sequence t c = (c.args.vr, bytes c.split_at.result.0.now, bytes_data c.args.syntax c.args.level c.args.vr c.args.len c.args.after.now c.split_at.result.0.now c.split_at.result.1.now (search rules) (c.requires.bytes (search rules)) c.requires.fits (search rules) (search rules))

pub value_end-returns-in_err-left : goal.value_end-returns-in_err-left
value_end-returns-in_err-left t c =
    let p = err_from_is_err_and c.from_residual.result c.from_residual.ensures.1 in
    rw (p.1, p.2) (in_items c.args.syntax c.args.level c.args.vr c.args.len c.args.after.now c.in_err-left.field-0.0 c.opened-reach.result.0 c.opened-reach.result.1.now (search rules) c.opened-reach.ensures.opens (subst (λ (s : TransferSyntax). ItemsFail s c.args.level c.opened-reach.result.0 c.opened-reach.result.1.now c.in_err-left.field-0.0) c.inside.ensures c.in_err-left.ensures))

pub value_end-returns : goal.value_end-returns
value_end-returns t c = (
  Sq,
  items c.in_ok-left.ensures.0,
  (
    search rules,
    refl,
    c.opened-reach.result.0,
    c.opened-reach.result.1.now,
    c.in_ok-left.left.now,
    rw c.rest_behind.ensures (c.opened-reach.ensures.spans c.in_ok-left.left.now (items_left c.inside.result c.args.level c.opened-reach.result.0 c.opened-reach.result.1.now c.in_ok-left.ensures.0 c.in_ok-left.left.now c.in_ok-left.ensures.1)),
    subst (λ (s : TransferSyntax). SpellsItems s c.args.level c.opened-reach.result.0 c.opened-reach.result.1.now c.in_ok-left.ensures.0 c.in_ok-left.left.now) c.inside.ensures c.in_ok-left.ensures.1,
  ),
)
