use Rattle.std.proofs.Common.{sym, ◌∙◌, arith}
use Rattle.ups_lasting.proofs.moving.finish_next.Goals as goal

pub returns-in-Ok-true-clause-agrees : goal.returns-in-Ok-true-clause-agrees
returns-in-Ok-true-clause-agrees g c = λ k s i. (
  c.begin_follow.ensures.followed s _ (c.in-Ok-true.ensures.finished s _ i.0) (c.in-Ok-true.ensures.all c.in-Ok-true.field-0-test),
  c.in-Ok-true.ensures.put k i.1 ∙ sym c.begin_follow.ensures.drafts,
)

pub returns-in-Ok-false-clause-agrees : goal.returns-in-Ok-false-clause-agrees
returns-in-Ok-false-clause-agrees g c = λ k s i. (c.in-Ok-false.ensures.finished s _ i.0, c.in-Ok-false.ensures.put k i.1)

pub returns-in-Ok-true-clause-covers : goal.returns-in-Ok-true-clause-covers
returns-in-Ok-true-clause-covers g c = λ begun was. omega (arith, was, c.finish_on.ensures.from, c.begin_follow.ensures.from)

pub returns-in-Ok-false-clause-covers : goal.returns-in-Ok-false-clause-covers
returns-in-Ok-false-clause-covers g c = λ begun was. omega (arith, was, c.finish_on.ensures.from)
