use Rattle.std.proofs.Common.{◌≡◌, take}
use Rattle.endings.proofs.ledger.copies_of.Given as goal

abbrev pub invariant-loop-stored : goal.invariant-loop-stored
invariant-loop-stored l = l.copies.items ≡ take l.stored-index l.records
