use Rattle.std.proofs.Common.{ℕ, List, length, ◌↔◌}
use Rattle.ups_pdu.specs.Item.{HasContents, EachSpells}
use Rattle.ups_pdu.proofs.item.are_all.Given as goal

abbrev pub invariant-loop-content : goal.invariant-loop-content
invariant-loop-content g l =
    (found : List (List ℕ)) → HasContents l.kind l.bytes found
    → (left : List (List ℕ)) × HasContents l.kind l.rest left × (((xs : List g.row.T.Denot) × EachSpells g.T.Spelled.spells found xs) ↔ ((xs : List g.row.T.Denot) × EachSpells g.T.Spelled.spells left xs))

abbrev pub decreases-loop-content : goal.decreases-loop-content
decreases-loop-content g l = length l.rest
