use Rattle.std.proofs.Common.{not, filter, List, ◌++◌, ◌∷◌, [], ℕ, Bool, if◌then◌else◌, ap, ◌∙◌}
use Rattle.std.proofs.lemmas.List.{take_all}
use Rattle.ups_life.specs.Steps.{past}
use Rattle.ups_life.specs.Watching.{is_due}
use Rattle.ups_plain.proofs.Walks.{filter_step}
use Rattle.ups_plain.proofs.walking.left.Goals as goal

pub loop-step-preserved : goal.loop-step-preserved
loop-step-preserved g c =
    let stays = λ (u : List ℕ). not (is_due c.args.configuration.now (past c.args.entries.now) c.args.moment u) in
    filter_step stays c.args.steps.now c.loop-step.step-index c.step-item.result c.loop-step.left.items c.add_left.new.left.items c.loop-step-test.true c.step-item.is c.loop-step.invariant
    (c.in_ok-add_left.ensures ∙ ap (λ (due : Bool). c.loop-step.left.items ++ (if not due then c.step-item.result ∷ [] else [])) c.in_ok-due.ensures)

pub returns : goal.returns
returns g c = c.loop-step.invariant ∙ ap (filter (λ (u : List ℕ). not (is_due c.args.configuration.now (past c.args.entries.now) c.args.moment u))) (take_all c.loop-step.step-index c.args.steps.now c.loop-step-test.false)

pub is_due-requires-clause-moments : goal.is_due-requires-clause-moments
is_due-requires-clause-moments g c = c.requires.moments

pub is_due-requires-clause-offset : goal.is_due-requires-clause-offset
is_due-requires-clause-offset g c = c.requires.offset
