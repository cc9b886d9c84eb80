use Rattle.std.proofs.Common.{option_map}
use Rattle.std.specs.Io.KnownBytes.{Keeps}
use Rattle.ups_pipe.specs.Hexing.{values}
use Rattle.ups_pipe.proofs.hexing.read_next.Given as goal

abbrev pub invariant-loop : goal.invariant-loop
invariant-loop g l = Keeps (option_map values (g.R.Read.remaining l.initial.reader)) (option_map values (g.R.Read.remaining l.reader))
