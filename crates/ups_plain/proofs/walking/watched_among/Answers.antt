use Rattle.std.proofs.Common.{List, ◌++◌, ◌∷◌, [], ℕ, Option, ap, ◌∙◌}
use Rattle.std.specs.List.{filter_map}
use Rattle.std.proofs.lemmas.List.{take_all}
use Rattle.ups_life.specs.declared.watching.Subscription.{Subscription}
use Rattle.ups_life.specs.Steps.{past}
use Rattle.ups_life.specs.Watching.{watch, watched_step}
use Rattle.ups_plain.proofs.Walks.{filter_map_step}
use Rattle.ups_plain.proofs.walking.watched_among.Goals as goal

pub loop-step-preserved : goal.loop-step-preserved
loop-step-preserved g c =
    let tells = λ (u : List ℕ). watched_step u (watch c.args.configuration.now (past c.args.entries.now) c.args.ae u) in
    filter_map_step tells c.args.steps.now c.loop-step.step-index c.step-item.result c.loop-step.found.items c.add_watched.new.found.items c.loop-step-test.true c.step-item.is c.loop-step.invariant
    (c.in_ok-add_watched.ensures ∙ ap (λ (how : Option Subscription). c.loop-step.found.items ++ filter_map (λ u. watched_step u how) (c.step-item.result ∷ [])) c.in_ok-subscription.ensures)

pub returns : goal.returns
returns g c =
    c.loop-step.invariant ∙ ap (filter_map (λ (u : List ℕ). watched_step u (watch c.args.configuration.now (past c.args.entries.now) c.args.ae u))) (take_all c.loop-step.step-index c.args.steps.now c.loop-step-test.false)

pub watch-requires-clause-moments : goal.watch-requires-clause-moments
watch-requires-clause-moments g c = c.requires.moments

pub watch-requires-clause-offset : goal.watch-requires-clause-offset
watch-requires-clause-offset g c = c.requires.offset
