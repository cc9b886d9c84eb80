use Rattle.std.proofs.Common.{length}
use Rattle.ups_pdu.specs.Lengths.{AreFilled}
use Rattle.ups_pdu.proofs.lengths.items_fill.Given as goal

abbrev pub invariant-loop-rest : goal.invariant-loop-rest
invariant-loop-rest g l = record { back : AreFilled g.P.ItemPlace.filled l.rest → AreFilled g.P.ItemPlace.filled l.bytes; on : AreFilled g.P.ItemPlace.filled l.bytes → AreFilled g.P.ItemPlace.filled l.rest }

abbrev pub decreases-loop-rest : goal.decreases-loop-rest
decreases-loop-rest g l = length l.rest
