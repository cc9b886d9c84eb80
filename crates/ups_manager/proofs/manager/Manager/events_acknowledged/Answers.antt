use Rattle.std.proofs.Common.{ap, ◌∙◌}
use Rattle.ups_events.specs.Telling.{Line}
use Rattle.ups_manager.proofs.Keyed.{queue_fits}
use Rattle.ups_manager.proofs.Watches.{queue_is}
use Rattle.ups_manager.proofs.manager.Manager.events_acknowledged.Goals as goal

pub acked_at-requires : goal.acked_at-requires
acked_at-requires g c =
    let m = c.self.inside in
    queue_fits m.configuration m.history.entries m.tables c.peers.result.now c.args.ae c.place_of-place.result c.self.invariant.0.tables c.peers.ensures c.place_of-place.ensures

pub returns : goal.returns
returns g c =
    let m = c.self.inside in
    rw (← c.self.view_is) (c.acked_at.ensures
    ∙ ap (λ (k : Line). k.acked) (queue_is m.configuration m.history.entries m.tables c.peers.result.now c.place_of-place.result c.args.ae c.self.invariant.0.tables c.peers.ensures c.place_of-place.ensures))
