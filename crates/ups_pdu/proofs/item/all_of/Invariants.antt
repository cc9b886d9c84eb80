use Rattle.std.proofs.Common.{List, ℕ, length}
use Rattle.ups_pdu.specs.Item.{HasContents, EachSpells}
use Rattle.ups_pdu.proofs.Collecting.{Collects}
use Rattle.ups_pdu.proofs.item.all_of.Given as goal

abbrev pub invariant-loop-content : goal.invariant-loop-content
invariant-loop-content g l =
    (found : List (List ℕ)) → HasContents l.kind l.bytes found → (xs : List g.row.T.Denot) → EachSpells g.T.Spelled.spells found xs → Collects g.T.Spelled.spells l.kind l.rest found l.all.items

abbrev pub decreases-loop-content : goal.decreases-loop-content
decreases-loop-content g l = length l.rest
