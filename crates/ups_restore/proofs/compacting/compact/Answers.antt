use Rattle.std.proofs.Common.{◌≡◌, ◌∙◌}
use Rattle.ups_life.specs.Steps.{past}
use Rattle.ups_compact.specs.Compacting.{left_for, steps_needed}
use Rattle.ups_restore.specs.declared.acknowledging.TheConstants.{COMPACTOR}
use Rattle.ups_restore.proofs.Leftover.{kept_history, legal_compacted, on_ok}
use Rattle.ups_restore.proofs.compacting.compact.Goals as goal

pub returns-clause-compacted : goal.returns-clause-compacted
returns-clause-compacted c =
    on_ok _ _ c.acknowledge.result
    (λ f. f
    (kept_history c.args.manager.now.settings c.args.fresh.now.settings c.in_ok-steps.steps c.args.manager.now.history c.in-Some.history.now c.carry_each.new.fresh.history c.requires.settings
    c.in_ok-steps.ensures.needed c.in-Some.ensures.whole c.in_ok-carry_each.ensures.entered))
    c.acknowledge.ensures.compacted

pub returns-clause-only : goal.returns-clause-only
returns-clause-only c = λ once.
    let manager = c.args.manager.now in
    let kept : past c.carry_each.new.fresh.history ≡ left_for manager.settings (steps_needed manager.settings (past manager.history)) (past manager.history) =
    kept_history manager.settings c.args.fresh.now.settings c.in_ok-steps.steps manager.history c.in-Some.history.now c.carry_each.new.fresh.history c.requires.settings c.in_ok-steps.ensures.needed
    c.in-Some.ensures.whole c.in_ok-carry_each.ensures.entered in
    let law = c.with_the_steps_needed_nothing_is_lost.ensures in
    let stands = law.stands COMPACTOR c.args.moment manager.settings (steps_needed manager.settings (past manager.history)) (past manager.history) c.whole.ensures.legal once (law.needed manager.settings (past manager.history)) in
    c.acknowledge.ensures.only
    (legal_compacted manager.settings manager.history c.carry_each.new.fresh.history c.whole.ensures.legal kept c.carry_each.new.fresh.settings COMPACTOR c.args.moment (c.carry_each.ensures.settings ∙ c.requires.settings) stands.legal_too)
