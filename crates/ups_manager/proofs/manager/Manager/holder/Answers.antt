use Rattle.std.proofs.Common.{ap, ◌∙◌}
use Rattle.ups_life.specs.Steps.{past}
use Rattle.ups_tables.specs.HeldSteps.{step_at, holder_in}
use Rattle.ups_tables.proofs.Holding.{holder_in-held_steps}
use Rattle.ups_tables.proofs.Keyed.{steps_kept}
use Rattle.ups_manager.proofs.Keyed.{is_found}
use Rattle.ups_manager.proofs.manager.Manager.holder.Goals as goal

pub returns-in-Some : goal.returns-in-Some
returns-in-Some g c =
    let m = c.self.inside in
    rw (← c.self.view_is) (record { holder = ap holder_in (is_found c.args.step m.tables.steps.entries _ c.in-Some.ensures ∙ ap (step_at c.args.step) (steps_kept m.configuration m.history.entries m.tables c.self.invariant.0.tables)) ∙ holder_in-held_steps m.configuration (past m.history.entries) c.args.step })

pub returns-in-None : goal.returns-in-None
returns-in-None g c =
    let m = c.self.inside in
    rw (← c.self.view_is) (record { holder = ap holder_in (is_found c.args.step m.tables.steps.entries _ c.in-None.ensures ∙ ap (step_at c.args.step) (steps_kept m.configuration m.history.entries m.tables c.self.invariant.0.tables)) ∙ holder_in-held_steps m.configuration (past m.history.entries) c.args.step })
