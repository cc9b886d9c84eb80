use Rattle.std.proofs.Common.{◌≡◌, drop}
use Rattle.ups_rows.specs.Answering.{rows_of_parts}
use Rattle.ups_rows.proofs.first.first_of_parts.Given as goal

abbrev pub invariant-loop-part : goal.invariant-loop-part
invariant-loop-part g l = rows_of_parts (drop l.part-index l.parts) ≡ rows_of_parts l.parts
