use Rattle.std.proofs.Common.{ℕ, ◌≤◌, List, length}
use Rattle.ups_pdu.specs.Item.{HasContents}
use Rattle.ups_pdu.proofs.item.next_of.Given as goal

abbrev pub invariant-loop-found : goal.invariant-loop-found
invariant-loop-found l = record {
  on : (found : List (List ℕ)) → HasContents l.kind l.bytes found → HasContents l.kind l.rest found;
  left : length l.rest ≤ length l.bytes;
}

abbrev pub decreases-loop-found : goal.decreases-loop-found
decreases-loop-found l = length l.rest
