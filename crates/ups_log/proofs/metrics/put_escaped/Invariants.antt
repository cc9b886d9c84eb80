use Rattle.std.proofs.Common.{take}
use Rattle.std.specs.Io.KnownBytes.{Appends}
use Rattle.std.specs.List.{flat_map}
use Rattle.ups_log.specs.Metrics.{escaped_byte}
use Rattle.ups_log.proofs.metrics.put_escaped.Given as goal

abbrev pub invariant-loop-byte : goal.invariant-loop-byte
invariant-loop-byte g l = Appends (g.W.Write.contents l.initial.writer) (g.W.Write.contents l.writer) (flat_map escaped_byte (take l.byte-index l.value))
