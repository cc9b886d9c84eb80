use Rattle.std.proofs.Common.{◌≡◌, ℕ, List, length}
use Rattle.ups_pdu.specs.Item.{HasContents}
use Rattle.ups_pdu.proofs.Ids.{Marked, Differ}
use Rattle.ups_pdu.proofs.context.ids_differ.Given as goal

abbrev pub invariant-loop-content : goal.invariant-loop-content
invariant-loop-content l = record {
  met : List ℕ;
  room : length l.seen ≡ 256;
  marked : Marked l.seen met;
  on : (found : List (List ℕ)) → HasContents l.kind l.bytes found → Differ l.kind l.rest met found;
}

abbrev pub decreases-loop-content : goal.decreases-loop-content
decreases-loop-content l = length l.rest
