use Rattle.ups_store.proofs.Begun.{counted_in}
use Rattle.ups_store.proofs.store.RequestStore.len.Goals as goal

pub returns : goal.returns
returns g c is_open =
    let v = g.S.Store.view c.args.self.now.store in
    let h = c.args.self.now.held is_open in
    counted_in v c.args.self.now.table c.args.self.now.count h
