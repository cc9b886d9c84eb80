use Rattle.std.proofs.Common.{◌≡◌, ◌++◌, take}
use Rattle.std.specs.List.{flat_map}
use Rattle.ups_pdu.specs.Written.{written_item}
use Rattle.ups_pdu.proofs.put.put_uids.Given as goal

abbrev pub invariant-loop-uid : goal.invariant-loop-uid
invariant-loop-uid g l = l.out.items ≡ l.fn.out.items ++ flat_map (written_item l.kind) (take l.uid-index l.uids)
