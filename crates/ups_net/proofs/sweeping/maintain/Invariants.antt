use Rattle.std.proofs.Common.{◌≡◌}
use Rattle.ups_ledger.specs.Keeping.{HasWatched}
use Rattle.ups_net.proofs.sweeping.maintain.Given as goal

abbrev pub invariant-loop : goal.invariant-loop
invariant-loop g l = record {
  stays : l.pass.table ≡ l.fn.pass.table;
  watched : HasWatched l.fn.pass l.pass;
}
