use Rattle.std.proofs.Common.{refl}
use Rattle.ups_manager.proofs.Entering.{answers_full}
use Rattle.ups_manager.proofs.answering.refuse_when_full.Goals as goal

pub returns-in-Ok : goal.returns-in-Ok
returns-in-Ok g c =
    let d = c.in-Ok.ensures in
    record { answer = answers_full c.args.configuration.now c.args.history.now.entries c.args.call.now c.in-Ok.field-0.reply d.reply d.accepted; nothing = refl; small = tt }
