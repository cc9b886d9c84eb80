use Rattle.std.proofs.Common.{◌≡◌, false, set, take}
use Rattle.ups_watch.specs.Table.{is_locked_by_any}
use Rattle.ups_watch.proofs.row.is_kept_with.Given as goal

abbrev pub invariant-loop-place : goal.invariant-loop-place
invariant-loop-place l = is_locked_by_any (take l.place (set l.cells l.peer l.subscription)) ≡ false
