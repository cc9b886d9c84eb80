use Rattle.ups_manager.proofs.Keyed.{keys_if_ok}
use Rattle.ups_manager.proofs.manager.Manager.held.Goals as goal

pub returns : goal.returns
returns g c =
    let m = c.self.inside in
    rw (← c.self.view_is) (keys_if_ok m.configuration m.history.entries m.tables c.uids_of.result c.self.invariant.0.tables c.uids_of.ensures)
