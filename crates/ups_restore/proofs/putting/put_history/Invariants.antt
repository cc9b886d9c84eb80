use Rattle.std.proofs.Common.{◌≡◌, ◌≤◌, ◌-◌, ◌++◌, length, map, take}
use Rattle.ups_journal.specs.Columns.{recorded}
use Rattle.ups_restore.proofs.putting.put_history.Given as goal

abbrev pub invariant-loop-place : goal.invariant-loop-place
invariant-loop-place g l = record {
  within : l.place ≤ length l.history;
  put : g.L.Ledger.is_sound l.ledger → g.L.Ledger.kept l.ledger ≡ g.L.Ledger.kept l.initial.ledger ++ map recorded (take l.place l.history);
  sound : g.L.Ledger.is_sound l.ledger → g.L.Ledger.is_sound l.initial.ledger;
}

abbrev pub decreases-loop-place : goal.decreases-loop-place
decreases-loop-place g l = length l.history - l.place
