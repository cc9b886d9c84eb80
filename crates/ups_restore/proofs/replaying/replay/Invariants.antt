use Rattle.std.proofs.Common.{◌≡◌, ◌++◌}
use Rattle.ups_service.specs.Law.{is_legal}
use Rattle.ups_restore.proofs.replaying.replay.Given as goal

abbrev pub invariant-loop-entry : goal.invariant-loop-entry
invariant-loop-entry g l = record {
  history : l.manager.history ≡ l.initial.manager.history ++ l.yielded;
  settings : l.manager.settings ≡ l.initial.manager.settings;
  legal : is_legal l.manager.settings l.manager.history;
}
