use Rattle.std.proofs.Common.{List, ℕ, length}
use Rattle.ups_pdu.specs.declared.associate.ProposedContext.{ProposedContext}
use Rattle.ups_pdu.specs.Context.{SpellsProposedContext}
use Rattle.ups_pdu.specs.Item.{HasContents, EachSpells}
use Rattle.ups_pdu.proofs.Collecting.{Collects}
use Rattle.ups_pdu.proofs.context.proposed_contexts_of.Given as goal

abbrev pub invariant-loop-content : goal.invariant-loop-content
invariant-loop-content g l =
    (found : List (List ℕ)) → HasContents 0x20 l.bytes found → (xs : List (ProposedContext g.row.A.Denot)) → EachSpells SpellsProposedContext found xs → Collects SpellsProposedContext 0x20 l.rest found l.contexts.items

abbrev pub decreases-loop-content : goal.decreases-loop-content
decreases-loop-content g l = length l.rest
