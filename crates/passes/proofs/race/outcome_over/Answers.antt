use Rattle.std.proofs.Common.{◌≡◌, All, subst, sym}
use Rattle.ups_manager.specs.View.{shared_state}
use Rattle.ups_turn.specs.Pass.{PassView}
use Rattle.passes.proofs.Opened.{opened_here}
use Rattle.passes.proofs.race.outcome_over.Goals as goal

pub outcome_at-requires-clause-here : goal.outcome_at-requires-clause-here
outcome_at-requires-clause-here g c κs within =
    subst (All (λ (p : PassView _). p.table ≡ c.in-Ok.desk.table)) (sym c.in-Ok.ensures.passes) (opened_here c.in-Ok.desk (shared_state c.args.manager) 1 c.args.seats)
