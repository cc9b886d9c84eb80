use Rattle.std.proofs.Common.{◌∙◌}
use Rattle.ups_life.specs.Steps.{past}
use Rattle.ups_compact.specs.Compacting.{steps_needed}
use Rattle.ups_restore.proofs.Leftover.{left_pays}
use Rattle.ups_restore.proofs.compacting.compaction_pays.Goals as goal

pub returns : goal.returns
returns c =
    c.pays.ensures
    ∙ left_pays c.in-Ok.steps (steps_needed c.args.manager.now.settings (past c.args.manager.now.history)) c.args.manager.now.history c.in-Some.history.now c.count_left.result c.in-Ok.ensures.needed c.in-Some.ensures.whole
    c.count_left.ensures
