use Rattle.std.proofs.Common.{List, sym, ap, ◌∙◌}
use Rattle.ups_life.specs.declared.peer.Peer.{Peer}
use Rattle.ups_life.specs.Steps.{past}
use Rattle.ups_life.specs.History.{receiver_of}
use Rattle.ups_tables.specs.Places.{place_of_title}
use Rattle.ups_tables.proofs.Planned.{has_place}
use Rattle.ups_tables.proofs.watch_plans.plan_suspend.Goals as goal

pub returns : goal.returns
returns g c = record {
  receiver = c.args.receiver;
  place = ap (λ (ps : List Peer). place_of_title ps c.args.receiver) (sym c.peers.ensures) ∙ sym c.place_of.ensures ∙ c.in-Some.is;
  request = c.requires.request;
}

pub unreachable-requires : goal.unreachable-requires
unreachable-requires g c = has_place c.args.configuration.now (past c.args.history.now.entries) c.args.entry.now c.requires.accepted c.args.receiver c.peers.result.now c.place_of.result (ap receiver_of c.requires.request) c.peers.ensures c.place_of.ensures c.in_default.is
