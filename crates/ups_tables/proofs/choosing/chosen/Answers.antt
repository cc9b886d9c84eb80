use Rattle.std.proofs.Common.{◌++◌, ◌∷◌, [], Bool, map, cond, ap, sym, ◌∙◌}
use Rattle.ups_life.specs.Watching.{takes_in}
use Rattle.ups_tables.specs.declared.rows.HeldStep.{HeldStep}
use Rattle.ups_tables.specs.Live.{report_now}
use Rattle.ups_tables.specs.Taken.{taken_in, steps_in, report_of_row}
use Rattle.ups_steps.proofs.Walking.{next_picked}
use Rattle.ups_tables.specs.Keyed.{step_with_held, as_steps}
use Rattle.ups_tables.proofs.choosing.chosen.Goals as goal

pub loop-step-preserved : goal.loop-step-preserved
loop-step-preserved g c =
    let target = c.args.target.now in
    let rest = as_steps c.next.new.self in
    let picks = λ (h : HeldStep g.row.A.Denot). takes_in target h.step h.row.attributes in
    let it = step_with_held c.in-Some.step.now c.in-Some.held.now in
    record {
      steps = ap (λ l. l ++ steps_in (taken_in target rest)) (c.in_ok-add_chosen.ensures.steps ∙ ap (λ (b : Bool). c.loop-step.steps.items ++ cond b (c.in-Some.step.now ∷ []) []) c.is_taken-taken.ensures)
          ∙ next_picked (λ (h : HeldStep g.row.A.Denot). h.step) picks it rest c.loop-step.steps.items
          ∙ ap (λ es. c.loop-step.steps.items ++ steps_in (taken_in target (as_steps es))) (sym c.in-Some.ensures.steps) ∙ c.loop-step.invariant.steps;
      news = ap (λ l. l ++ map report_of_row (taken_in target rest))
          (c.in_ok-add_chosen.ensures.news ∙ ap (λ (b : Bool). c.loop-step.news.items ++ cond b (report_now c.in-Some.step.now c.in-Some.held.now.row ∷ []) []) c.is_taken-taken.ensures)
          ∙ next_picked (λ (h : HeldStep g.row.A.Denot). report_of_row h) picks it rest c.loop-step.news.items
          ∙ ap (λ es. c.loop-step.news.items ++ map report_of_row (taken_in target (as_steps es))) (sym c.in-Some.ensures.steps) ∙ c.loop-step.invariant.news;
    }
