use Rattle.std.proofs.Common.{sym, ◌∙◌, rules, inl, inr}
use Rattle.ups_pdu.proofs.UidWalk.{at_first, no_component, component_then, ended, no_dot, dot_then}
use Rattle.ups_pdu.proofs.uid.are_components.Goals as goal
use Rattle.ups_pdu.proofs.uid.are_components.Goals.{then-is_empty-via-then-is_empty, then-is_empty-via-else-is_empty+then-has_leading_zero}

pub loop-digits-init : goal.loop-digits-init
loop-digits-init c = at_first c.args.text.now

pub returns-then-is_empty : goal.returns-then-is_empty
returns-then-is_empty c =
    sym (c.loop-digits.invariant ∙ no_component c.loop-digits.rest.now c.split_at.result.0.now c.digits_len.result c.digits_len.ensures.len (search rules) c.split_at.ensures.front (elim c.then-is_empty.branch [
      | then-is_empty-via-then-is_empty w ↦ inl (search rules)
      | then-is_empty-via-else-is_empty+then-has_leading_zero w ↦ inr (sym w.has_leading_zero.ensures ∙ w.if-has_leading_zero.true)
    ]))

pub returns-in_default : goal.returns-in_default
returns-in_default c =
    sym (c.loop-digits.invariant ∙ component_then c.loop-digits.rest.now c.split_at.result.0.now c.split_at.result.1.now c.digits_len.result c.digits_len.ensures.len (search rules) c.split_at.ensures.front c.split_at.ensures.back (search rules) (sym c.has_leading_zero.ensures ∙ c.if-has_leading_zero.false)
    ∙ ended c.split_at.result.1.now c.in_default.ensures.cases)

pub returns-then-byte-ne46 : goal.returns-then-byte-ne46
returns-then-byte-ne46 c =
    sym (c.loop-digits.invariant ∙ component_then c.loop-digits.rest.now c.split_at.result.0.now c.split_at.result.1.now c.digits_len.result c.digits_len.ensures.len (search rules) c.split_at.ensures.front c.split_at.ensures.back (search rules) (sym c.has_leading_zero.ensures ∙ c.if-has_leading_zero.false)
    ∙ no_dot c.split_at.result.1.now c.in-Some.byte.now c.in-Some.after.now (search rules) c.if-byte-ne46.true)

pub loop-digits-smaller : goal.loop-digits-smaller
loop-digits-smaller c = search rules

pub loop-digits-preserved : goal.loop-digits-preserved
loop-digits-preserved c =
    c.loop-digits.invariant ∙ component_then c.loop-digits.rest.now c.split_at.result.0.now c.split_at.result.1.now c.digits_len.result c.digits_len.ensures.len (search rules) c.split_at.ensures.front c.split_at.ensures.back (search rules) (sym c.has_leading_zero.ensures ∙ c.if-has_leading_zero.false)
    ∙ dot_then c.split_at.result.1.now c.in-Some.byte.now c.in-Some.after.now (search rules) (search rules)
