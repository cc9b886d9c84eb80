use Rattle.std.proofs.Common.{◌≡◌, List, length}
use Rattle.std.specs.List.{list_all}
use Rattle.ups_pdu.specs.Each.{Each}
use Rattle.ups_pdu.specs.Item.{Item, IsItem, is_one_of}
use Rattle.ups_pdu.proofs.item.has_only.Given as goal

abbrev pub invariant-loop-kind : goal.invariant-loop-kind
invariant-loop-kind l = (items : List Item) → Each IsItem l.bytes items → (left : List Item) × Each IsItem l.rest left × (list_all (is_one_of l.kinds) items ≡ list_all (is_one_of l.kinds) left)

abbrev pub decreases-loop-kind : goal.decreases-loop-kind
decreases-loop-kind l = length l.rest
