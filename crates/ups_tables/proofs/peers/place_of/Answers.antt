use Rattle.ups_tables.proofs.Placed.{from_start}
use Rattle.ups_tables.proofs.peers.place_of.Goals as goal

pub loop-place-init : goal.loop-place-init
loop-place-init c = from_start c.args.peers.now c.args.ae
