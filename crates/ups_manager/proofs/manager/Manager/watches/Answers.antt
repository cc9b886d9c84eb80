use Rattle.ups_life.specs.Steps.{past}
use Rattle.ups_manager.proofs.Watches.{watched_if_ok, views_if_ok}
use Rattle.ups_manager.proofs.manager.Manager.watches.Goals as goal

pub returns-clause-watched : goal.returns-clause-watched
returns-clause-watched g c =
    let m = c.self.inside in
    rw (← c.self.view_is) (watched_if_ok m.configuration m.history.entries m.tables c.in_ok-uids.uids.items c.as_slice.result.now c.peers.result.now c.place_of-place.result c.args.ae c.watched_in.result
    c.self.invariant.0.tables c.in_ok-uids.ensures c.as_slice.ensures.value c.peers.ensures c.place_of-place.ensures c.watched_in.ensures)

pub returns-clause-view : goal.returns-clause-view
returns-clause-view g c =
    let m = c.self.inside in
    rw (← c.self.view_is) (views_if_ok m.configuration (past m.history.entries) c.args.ae c.watched_in.result
    (watched_if_ok m.configuration m.history.entries m.tables c.in_ok-uids.uids.items c.as_slice.result.now c.peers.result.now c.place_of-place.result c.args.ae c.watched_in.result
    c.self.invariant.0.tables c.in_ok-uids.ensures c.as_slice.ensures.value c.peers.ensures c.place_of-place.ensures c.watched_in.ensures))
