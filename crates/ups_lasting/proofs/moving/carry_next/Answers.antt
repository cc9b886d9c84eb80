use Rattle.std.proofs.Common.{length, sym, ap, ◌∙◌, arith}
use Rattle.ups_lasting.proofs.moving.carry_next.Goals as goal

pub returns-in_ok-finish-in-Ok-true-clause-agrees : goal.returns-in_ok-finish-in-Ok-true-clause-agrees
returns-in_ok-finish-in-Ok-true-clause-agrees g c = λ k s i. (
  c.in_ok-finish-in-Ok-true.ensures.finished s _ (c.in-Ok-true.ensures.carried k s i.0) (c.in-Ok-true.ensures.all c.in-Ok-true.field-0-test),
  c.in-Ok-true.ensures.put k i.1 ∙ sym c.in_ok-finish-in-Ok-true.ensures.drafts,
)

pub returns-in-Ok-false-clause-agrees : goal.returns-in-Ok-false-clause-agrees
returns-in-Ok-false-clause-agrees g c = λ k s i. (c.in-Ok-false.ensures.carried k s i.0, c.in-Ok-false.ensures.put k i.1)

pub returns-in_ok-finish-in-Ok-true-clause-covers : goal.returns-in_ok-finish-in-Ok-true-clause-covers
returns-in_ok-finish-in-Ok-true-clause-covers g c = λ begun was.
    omega (arith, was, c.in-Ok-true.ensures.all c.in-Ok-true.field-0-test, ap (λ n. length n.history) c.carry_on.ensures.survey, c.in_ok-finish-in-Ok-true.ensures.from)

pub returns-in-Ok-false-clause-covers : goal.returns-in-Ok-false-clause-covers
returns-in-Ok-false-clause-covers g c = λ begun was. omega (arith, was, ap (λ n. length n.history) c.carry_on.ensures.survey)
