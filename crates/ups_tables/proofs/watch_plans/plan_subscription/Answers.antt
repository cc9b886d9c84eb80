use Rattle.std.proofs.Common.{ap}
use Rattle.ups_life.specs.Steps.{past}
use Rattle.ups_life.specs.History.{receiver_of}
use Rattle.ups_tables.proofs.Planned.{has_place}
use Rattle.ups_tables.proofs.watch_plans.plan_subscription.Goals as goal

pub unreachable-requires : goal.unreachable-requires
unreachable-requires g c = has_place c.args.configuration.now (past c.args.history.now.entries) c.args.entry.now c.requires.accepted c.args.receiver c.peers.result.now c.place_of.result (ap receiver_of c.requires.request) c.peers.ensures c.place_of.ensures c.in_default.is
