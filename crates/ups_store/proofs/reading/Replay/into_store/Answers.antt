use Rattle.ups_store.proofs.Steps.{open_clean}
use Rattle.ups_store.proofs.Scans.{held_ended, ended_is, ended_not_failed}
use Rattle.ups_store.proofs.reading.Replay.into_store.Goals as goal

pub of-requires : goal.of-requires
of-requires g c up =
    let it = c.args.self in
    let v = g.S.Store.view it.store in
    let clean = open_clean v (g.met.S.Store.shut_if_dirty it.store) up in
    let is = ended_is it.phase c.requires in
    held_ended v it.table it.count (it.read (ended_not_failed it.phase is) clean) (it.ended is clean)
