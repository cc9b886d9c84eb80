use Rattle.std.proofs.Common.{length}
use Rattle.ups_dimse.proofs.AttributeTags.{TagsSoFar}
use Rattle.ups_dimse.proofs.elements.tags_in.Given as goal

abbrev pub invariant-loop-tag : goal.invariant-loop-tag
invariant-loop-tag g l = TagsSoFar l.bytes l.tags.items l.rest

abbrev pub decreases-loop-tag : goal.decreases-loop-tag
decreases-loop-tag g l = length l.rest
