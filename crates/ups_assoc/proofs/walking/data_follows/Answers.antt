use Rattle.std.proofs.Common.{sym, ap, ◌∙◌}
use Rattle.std.proofs.lemmas.List.{take_rest}
use Rattle.ups_assoc.specs.Announcing.{announced_behind}
use Rattle.ups_assoc.proofs.Announced.{decided, passed, behind_within, behind_past, behind_short}
use Rattle.ups_assoc.proofs.walking.data_follows.Goals as goal

pub returns-then-is_data_set_type : goal.returns-then-is_data_set_type
returns-then-is_data_set_type c =
    let h = c.in-Some.ensures in
    let is = sym c.is_data_set_type.ensures ∙ c.if-is_data_set_type.true in
    c.announces.ensures ∙ decided c.args.command.now c.loop-tag.rest.now _ c.in-Some.len c.in-Some.value.now c.loop-tag.invariant h.0 h.1 h.2 is

pub returns-then-value-len : goal.returns-then-value-len
returns-then-value-len c =
    let h = c.in-Some.ensures in
    let other = sym c.is_data_set_type.ensures ∙ c.if-is_data_set_type.false in
    sym (passed c.args.command.now c.loop-tag.rest.now _ c.in-Some.len c.in-Some.value.now c.loop-tag.invariant h.0 h.1 h.2 other ∙ behind_past c.in-Some.len c.in-Some.value.now c.if-value-len.true)

pub loop-tag-preserved : goal.loop-tag-preserved
loop-tag-preserved c =
    let h = c.in-Some.ensures in
    let other = sym c.is_data_set_type.ensures ∙ c.if-is_data_set_type.false in
    passed c.args.command.now c.loop-tag.rest.now _ c.in-Some.len c.in-Some.value.now c.loop-tag.invariant h.0 h.1 h.2 other
    ∙ behind_within c.in-Some.len c.in-Some.value.now c.if-value-len.false
    ∙ ap (announced_behind 0) (sym (take_rest c.in-Some.value.now c.in-Some.len))

pub returns : goal.returns
returns c = sym (c.loop-tag.invariant ∙ behind_short c.loop-tag.rest.now c.in_default.ensures)
