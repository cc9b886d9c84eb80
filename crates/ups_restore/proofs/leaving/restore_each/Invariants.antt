use Rattle.std.proofs.Common.{◌≡◌, ◌++◌, List, take}
use Rattle.ups_life.specs.declared.entry.Entry.{Entry}
use Rattle.ups_service.specs.Law.{is_legal}
use Rattle.ups_restore.specs.Replaying.{AreOf}
use Rattle.ups_restore.specs.Leaving.{AreTaken}
use Rattle.ups_restore.proofs.leaving.restore_each.Given as goal

abbrev pub invariant-loop-place : goal.invariant-loop-place
invariant-loop-place g l = record {
  taken : AreTaken l.initial.manager.settings l.initial.manager.history (take l.place l.records) l.may_be_left_out l.counts l.manager.history;
  only : (es : List (Entry _)) → AreOf l.initial.manager.settings l.initial.manager.history l.records es → l.manager.history ≡ l.initial.manager.history ++ take l.place es;
  settings : l.manager.settings ≡ l.initial.manager.settings;
  legal : is_legal l.manager.settings l.manager.history;
}
