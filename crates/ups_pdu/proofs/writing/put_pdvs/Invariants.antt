use Rattle.std.proofs.Common.{◌≡◌, ◌++◌, take}
use Rattle.std.specs.List.{flat_map}
use Rattle.ups_pdu.specs.Written.{written_pdv}
use Rattle.ups_pdu.proofs.writing.put_pdvs.Given as goal

abbrev pub invariant-loop-pdv : goal.invariant-loop-pdv
invariant-loop-pdv g l = l.out.items ≡ l.fn.out.items ++ flat_map written_pdv (take l.pdv-index l.pdvs)
