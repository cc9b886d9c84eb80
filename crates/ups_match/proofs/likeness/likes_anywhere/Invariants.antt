use Rattle.std.proofs.Common.{◌∷◌, ◌↔◌, length}
use Rattle.ups_match.specs.Likeness.{IsLike}
use Rattle.ups_match.proofs.likeness.likes_anywhere.Given as goal

abbrev pub invariant-loop-after : goal.invariant-loop-after
invariant-loop-after l = IsLike (42 ∷ l.rest) l.left ↔ IsLike (42 ∷ l.pattern) l.text

abbrev pub decreases-loop-after : goal.decreases-loop-after
decreases-loop-after l = length l.rest
