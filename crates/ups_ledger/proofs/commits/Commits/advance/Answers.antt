use Rattle.std.proofs.Common.{arith}
use Rattle.ups_ledger.proofs.Had.{backed}
use Rattle.ups_ledger.proofs.commits.Commits.advance.Goals as goal

pub store-requires : goal.store-requires
store-requires g c = λ m few. backed g.L.Ledger g.K.Keeping.had c.requires c.args.keeper.now.committed c.args.keeper.now.had m (omega (arith, few, c.count.ensures))
