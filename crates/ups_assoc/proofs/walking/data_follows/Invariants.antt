use Rattle.std.proofs.Common.{◌≡◌, length}
use Rattle.ups_assoc.specs.Announcing.{data_follows, announced_behind}
use Rattle.ups_assoc.proofs.walking.data_follows.Given as goal

abbrev pub invariant-loop-tag : goal.invariant-loop-tag
invariant-loop-tag l = data_follows l.command ≡ announced_behind 0 l.rest

abbrev pub decreases-loop-tag : goal.decreases-loop-tag
decreases-loop-tag l = length l.rest
