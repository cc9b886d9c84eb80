use Rattle.std.proofs.Common.{◌∙◌, ◌++◌, ◌∷◌, [], ℕ, List, Option, None, ap}
use Rattle.std.specs.List.{filter_map}
use Rattle.std.proofs.lemmas.List.{take_all}
use Rattle.ups_life.specs.declared.watching.Subscription.{Subscription}
use Rattle.ups_life.specs.declared.watching.Watched.{Watched}
use Rattle.ups_life.specs.Watching.{watched_step}
use Rattle.ups_tables.proofs.Serving.{map_step}
use Rattle.ups_tables.specs.Fit.{how}
use Rattle.ups_tables.specs.Places.{by_place}
use Rattle.ups_manager.proofs.peers.watched_in.Goals as goal

pub loop-step-preserved : goal.loop-step-preserved
loop-step-preserved g c =
    let tells : List ℕ → Option Watched = λ (u : List ℕ). watched_step u (by_place None (λ (p : ℕ). how c.args.tables.now p u) c.args.place) in
    map_step tells c.args.steps.now c.loop-step.step-index c.step-item.result c.loop-step.found.items c.add_watched.new.found.items c.loop-step-test.true c.step-item.is c.loop-step.invariant
    (c.in_ok-add_watched.ensures ∙ ap (λ (how : Option Subscription). c.loop-step.found.items ++ filter_map (λ u. watched_step u how) (c.step-item.result ∷ [])) c.how_at-subscription.ensures)

pub returns : goal.returns
returns g c =
    c.loop-step.invariant ∙ ap (filter_map (λ (u : List ℕ). watched_step u (by_place None (λ (p : ℕ). how c.args.tables.now p u) c.args.place))) (take_all c.loop-step.step-index c.args.steps.now c.loop-step-test.false)
