use Rattle.std.proofs.Common.{◌≡◌, take}
use Rattle.ups_life.specs.Steps.{past}
use Rattle.ups_service.specs.Law.{is_legal}
use Rattle.ups_compact.specs.Compacting.{left_for}
use Rattle.ups_restore.proofs.compacting.carry_each.Given as goal

abbrev pub invariant-loop-entry : goal.invariant-loop-entry
invariant-loop-entry l = record {
  entered : past l.fresh.history ≡ left_for l.initial.fresh.settings l.steps (past (take l.entry-index l.history));
  settings : l.fresh.settings ≡ l.initial.fresh.settings;
  legal : is_legal l.fresh.settings l.fresh.history;
}
