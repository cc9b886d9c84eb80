use Rattle.std.proofs.Common.{sym}
use Rattle.ups_store.specs.Shown.{requests_shown}
use Rattle.ups_store.proofs.Steps.{open_clean}
use Rattle.ups_start.proofs.ledger.StoreLedger.of.Goals as goal

pub first-requires : goal.first-requires
first-requires g c = λ up.
    let store = c.args.begun.store in
    record { many = c.requires up; same = sym (c.args.begun.digested (open_clean (requests_shown store) (g.met.P.Store.Store.shut_if_dirty store.store) up)) }
