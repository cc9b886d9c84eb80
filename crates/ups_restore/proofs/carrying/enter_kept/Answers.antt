use Rattle.std.proofs.Common.{sym, ◌∙◌}
use Rattle.ups_restore.proofs.Keeping.{carried_left}
use Rattle.ups_restore.proofs.carrying.enter_kept.Goals as goal

pub returns-then-is_left-clause-carried : goal.returns-then-is_left-clause-carried
returns-then-is_left-clause-carried c = λ es l was.
    carried_left c.args.fresh.now.settings c.args.steps.now c.args.entry es c.args.fresh.now.settings c.args.fresh.now.history c.replay_one.new.manager.history was (sym c.is_left.ensures ∙ c.if-is_left.true) l c.replay_one.result
    c.replay_one.ensures.entered c.replay_one.ensures.why
