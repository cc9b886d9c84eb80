use Rattle.std.proofs.Common.{◌≡◌, ◌++◌, List, take}
use Rattle.ups_life.specs.declared.entry.Entry.{Entry}
use Rattle.ups_service.specs.Law.{is_legal}
use Rattle.ups_restore.specs.Replaying.{AreOf, GoesOnBy}
use Rattle.ups_restore.proofs.restoring.restore.Given as goal

abbrev pub invariant-loop-place : goal.invariant-loop-place
invariant-loop-place g l = record {
  goes : GoesOnBy l.initial.manager.history (take l.place l.records) l.manager.history;
  only : (es : List (Entry _)) → AreOf l.initial.manager.settings l.initial.manager.history l.records es → l.manager.history ≡ l.initial.manager.history ++ take l.place es;
  settings : l.manager.settings ≡ l.initial.manager.settings;
  legal : is_legal l.manager.settings l.manager.history;
}
