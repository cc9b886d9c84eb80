use Rattle.std.proofs.Common.{is_some, refl}
use Rattle.ups_ledger.proofs.Leaving.{go_same}
use Rattle.ups_net.proofs.Watching.{looked_same}
use Rattle.ups_net.proofs.sweeping.before_round.Goals as goal

pub returns-then-is_first : goal.returns-then-is_first
returns-then-is_first g c = record { stays = refl; looks = looked_same (is_some c.args.keeper) c.args.pass.now; keeps = refl; goes_on = go_same g.L.Ledger c.args.keeper c.args.pass.now.seen }
