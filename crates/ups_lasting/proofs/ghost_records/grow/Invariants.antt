use Rattle.std.proofs.Common.{◌≡◌, ◌++◌, take}
use Rattle.ups_lasting.specs.Standing.{firsts}
use Rattle.ups_lasting.proofs.ghost_records.grow.Given as goal

abbrev pub invariant-loop-stored : goal.invariant-loop-stored
invariant-loop-stored l = firsts l.log.items ≡ firsts l.initial.log.items ++ take l.stored-index l.records
