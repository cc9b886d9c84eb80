use Rattle.std.proofs.Common.{List, ◌++◌, ◌∷◌, [], map, filter, ap, ◌∙◌}
use Rattle.ups_dataset.specs.Data.{El, answer}
use Rattle.ups_match.specs.Matching.{is_match}
use Rattle.ups_life.specs.Steps.{past}
use Rattle.ups_life.proofs.Rows.{answers_step, answers_end}
use Rattle.ups_plain.proofs.rows.plain_find.Goals as goal

pub loop-step-preserved : goal.loop-step-preserved
loop-step-preserved g c =
    let keys = c.args.keys.now in
    answers_step c.args.configuration.now (past c.args.entries.now) keys c.deref-step-items.result.now c.loop-step.step-index c.step-item.result c.loop-step.sets c.add_answer.new.sets c.loop-step-test.true c.step-item.is c.loop-step.invariant
    (c.in_ok-add_answer.ensures ∙ ap (λ (r : List El). c.loop-step.sets ++ map (λ q. answer q keys.attributes) (filter (is_match keys) (r ∷ []))) c.in_ok-row.ensures)

pub returns : goal.returns
returns g c =
    answers_end c.args.configuration.now (past c.args.entries.now) c.args.keys.now c.deref-step-items.result.now c.loop-step.step-index c.loop-step.sets c.loop-step-test.false c.loop-step.invariant
    (c.deref-step-items.ensures.value ∙ c.in_ok-steps.ensures)

pub plain_held-requires-clause-moments : goal.plain_held-requires-clause-moments
plain_held-requires-clause-moments g c = c.requires.moments

pub plain_held-requires-clause-offset : goal.plain_held-requires-clause-offset
plain_held-requires-clause-offset g c = c.requires.offset

pub row-requires-clause-moments : goal.row-requires-clause-moments
row-requires-clause-moments g c = c.requires.moments

pub row-requires-clause-offset : goal.row-requires-clause-offset
row-requires-clause-offset g c = c.requires.offset
