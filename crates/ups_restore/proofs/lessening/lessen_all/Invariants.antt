use Rattle.std.proofs.Common.{◌≡◌, map, take}
use Rattle.ups_compact.specs.Shifts.{less_by}
use Rattle.ups_restore.specs.Lessening.{lessened}
use Rattle.ups_restore.proofs.lessening.lessen_all.Given as goal

abbrev pub invariant-loop-stored : goal.invariant-loop-stored
invariant-loop-stored l = l.copies.items ≡ map (lessened (less_by l.shifts)) (take l.stored-index l.records)
