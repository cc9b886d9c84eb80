use Rattle.std.proofs.Common.{◌≡◌, List, subst, IfOk}
use Rattle.ups_life.specs.declared.event.Event.{Event}
use Rattle.ups_manager.proofs.Keyed.{queue_fits}
use Rattle.ups_manager.proofs.Watches.{pending_is}
use Rattle.ups_manager.proofs.manager.Manager.events_waiting.Goals as goal

pub all_pending-requires : goal.all_pending-requires
all_pending-requires g c =
    let m = c.self.inside in
    queue_fits m.configuration m.history.entries m.tables c.peers.result.now c.args.ae c.place_of-place.result c.self.invariant.0.tables c.peers.ensures c.place_of-place.ensures

pub returns : goal.returns
returns g c =
    let m = c.self.inside in
    rw (← c.self.view_is) (subst (λ (xs : List Event). IfOk c.all_pending.result (λ v. v.items ≡ xs))
    (pending_is m.configuration m.history.entries m.tables c.peers.result.now c.place_of-place.result c.args.ae c.self.invariant.0.tables c.peers.ensures c.place_of-place.ensures) c.all_pending.ensures)
