use Rattle.ups_manager.proofs.Watchers.{no_other}
use Rattle.ups_manager.proofs.deciding.plan_watcher.Goals as goal

pub unreachable-requires : goal.unreachable-requires
unreachable-requires g c = no_other c.args.call.now.request c.requires.kind c.in_default.not-Subscribe c.in_default.not-Unsubscribe c.in_default.not-Suspend
