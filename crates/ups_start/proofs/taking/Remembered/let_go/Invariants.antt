use Rattle.std.proofs.Common.{◌≡◌}
use Rattle.ups_start.proofs.taking.Remembered.let_go.Given as goal

abbrev pub invariant-loop : goal.invariant-loop
invariant-loop l = record {
  history : l.manager.history ≡ l.initial.manager.history;
  settings : l.manager.settings ≡ l.initial.manager.settings;
}
