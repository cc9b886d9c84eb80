use Rattle.std.proofs.Common.{◌≡◌}
use Rattle.ups_manager.specs.Kept.{Remembers}
use Rattle.ups_manager.proofs.memory.look_at_some_again.Given as goal

abbrev pub invariant-loop : goal.invariant-loop
invariant-loop g l = record {
  entries : l.history.entries ≡ l.fn.history.entries;
  remembers : Remembers l.configuration l.history;
}
