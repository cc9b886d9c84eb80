use Rattle.std.proofs.Common.{◌≡◌, ◌++◌, take}
use Rattle.std.specs.List.{flat_map}
use Rattle.ups_pdu.specs.Written.{written_item, proposed_content}
use Rattle.ups_pdu.proofs.put.put_all_proposed.Given as goal

abbrev pub invariant-loop-context : goal.invariant-loop-context
invariant-loop-context g l = l.out.items ≡ l.fn.out.items ++ flat_map (λ c. written_item 0x20 (proposed_content c)) (take l.context-index l.contexts)
