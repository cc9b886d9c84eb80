use Rattle.std.proofs.Common.{refl}
use Rattle.ups_life.specs.Steps.{past}
use Rattle.ups_manager.proofs.Reserving.{of_uid, uid_of_no_step, reserve_decided}
use Rattle.ups_manager.proofs.Watchers.{small_same}
use Rattle.ups_manager.proofs.Reindexed.{same_indexed}
use Rattle.ups_manager.proofs.deciding.decide_reserve.Goals as goal

pub returns : goal.returns
returns g c =
    let s = c.args.configuration.now in
    let es = past c.args.history.now.entries in
    let call = c.args.call.now in
    record {
      reply = reserve_decided s es call.caller call.ae call.moment call.request c.args.step c.requires.kind;
      accepted = refl;
      plan = record { request = of_uid call.request c.args.step c.requires.kind };
      small = small_same s es call _ (uid_of_no_step call.request c.args.step c.requires.kind) refl c.requires.stands.small;
      index = same_indexed s es call (uid_of_no_step call.request c.args.step c.requires.kind);
    }
