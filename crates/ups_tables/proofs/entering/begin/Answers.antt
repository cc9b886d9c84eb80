use Rattle.std.proofs.Common.{length, ap}
use Rattle.ups_tables.proofs.Roomy.{stands_new}
use Rattle.ups_tables.proofs.entering.begin.Goals as goal

pub returns : goal.returns
returns g c =
    let t = c.in_ok-tables in
    stands_new c.args.configuration.now (length c.peers-peers.result.now) t.tables c.requires (ap length c.peers-peers.ensures) t.ensures.steps t.ensures.used t.ensures.covers t.ensures.hows t.ensures.queues t.ensures.fits
