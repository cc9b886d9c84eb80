use Rattle.std.proofs.Common.{◌≡◌}
use Rattle.ups_ledger.specs.Keeping.{KeeperGoesOn, HasWatched}
use Rattle.ups_net.proofs.committer.Committer.keep_until.Given as goal

abbrev pub invariant-loop : goal.invariant-loop
invariant-loop g l = record {
  stays : l.pass.table ≡ l.fn.pass.table;
  watched : HasWatched l.fn.pass l.pass;
  goes_on : KeeperGoesOn g.L.Ledger l.fn.keeper l.fn.pass.seen l.keeper l.pass.seen;
}
