use Rattle.std.proofs.Common.{subst}
use Rattle.ups_restore.specs.declared.fault.Refusal.{Refusal}
use Rattle.ups_restore.specs.Replaying.{IsRefusal}
use Rattle.ups_restore.proofs.Keeping.{entered_sweep, refused_sweep}
use Rattle.ups_restore.proofs.carrying.enter_sweep.Goals as goal

pub returns-in-Ok-clause-carried : goal.returns-in-Ok-clause-carried
returns-in-Ok-clause-carried c = λ steps es l was.
    entered_sweep c.args.fresh.now.settings steps c.args.entry es c.replay_one.new.manager.settings c.args.fresh.now.history c.replay_one.new.manager.history was c.requires.sweep c.replay_one.ensures.settings c.in-Ok.ensures.entered
    c.replay_one.ensures.legal

pub returns-in-Err-Refused-clause-carried : goal.returns-in-Err-Refused-clause-carried
returns-in-Err-Refused-clause-carried c = λ steps es l was.
    refused_sweep c.args.fresh.now.settings steps c.args.entry es c.args.fresh.now.settings c.args.fresh.now.history c.replay_one.new.manager.history was c.requires.sweep l c.in-Err-Refused.ensures.stays
    (subst (λ (r : Refusal). IsRefusal c.args.fresh.now.settings c.args.fresh.now.history c.args.entry r) c.in-Err-Refused.field-0-is c.in-Err-Refused.ensures.why)
