use Rattle.std.proofs.Common.{refl}
use Rattle.ups_restore.proofs.Keeping.{carried_reservation, passed_over}
use Rattle.ups_restore.proofs.carrying.enter_reservation.Goals as goal

pub returns-in-Some-clause-carried : goal.returns-in-Some-clause-carried
returns-in-Some-clause-carried c = λ es l was.
    carried_reservation c.args.fresh.now.settings c.args.steps.now c.args.entry.now es c.args.fresh.now.settings c.args.fresh.now.history c.replay_one.new.manager.history was c.requires.off c.requires.other c.in-Some.reserving
    c.in-Some.ensures.found l c.replay_one.result c.replay_one.ensures.entered c.replay_one.ensures.why

pub returns-in-None-clause-carried : goal.returns-in-None-clause-carried
returns-in-None-clause-carried c = λ es l was.
    passed_over c.args.fresh.now.settings c.args.steps.now c.args.entry.now es c.args.fresh.now.settings c.args.fresh.now.history c.args.fresh.now.history was c.requires.off c.requires.other (c.reservation.ensures.none c.in-None.is) refl
