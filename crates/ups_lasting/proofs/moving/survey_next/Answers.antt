use Rattle.std.proofs.Common.{◌∙◌, arith}
use Rattle.ups_lasting.proofs.moving.survey_next.Goals as goal

pub returns-in_ok-begin_sorting-in-Ok-true-clause-agrees : goal.returns-in_ok-begin_sorting-in-Ok-true-clause-agrees
returns-in_ok-begin_sorting-in-Ok-true-clause-agrees g c = λ k s i. (c.in_ok-begin_sorting-in-Ok-true.ensures.sorting s _ (c.in-Ok-true.ensures.surveyed k s i.0), c.survey.ensures.drafts k ∙ i.1)

pub returns-in-Ok-false-clause-agrees : goal.returns-in-Ok-false-clause-agrees
returns-in-Ok-false-clause-agrees g c = λ k s i. (c.in-Ok-false.ensures.surveyed k s i.0, c.survey.ensures.drafts k ∙ i.1)

pub returns-in_ok-begin_sorting-in-Ok-true-clause-covers : goal.returns-in_ok-begin_sorting-in-Ok-true-clause-covers
returns-in_ok-begin_sorting-in-Ok-true-clause-covers g c = λ k was. omega (arith, c.in-Ok-true.ensures.all c.in-Ok-true.field-0-test k was, c.in_ok-begin_sorting-in-Ok-true.ensures.same)
