use Rattle.std.proofs.Common.{◌≤◌, ◌∷◌, ◌↔◌, ℕ, List, length}
use Rattle.ups_match.specs.Likeness.{IsLike}
use Rattle.ups_match.proofs.likeness.without_stars.Given as goal

abbrev pub invariant-loop-behind : goal.invariant-loop-behind
invariant-loop-behind l = ((text : List ℕ) → IsLike (42 ∷ l.pattern) text ↔ IsLike (42 ∷ l.rest) text) × (length l.rest ≤ length l.pattern)

abbrev pub decreases-loop-behind : goal.decreases-loop-behind
decreases-loop-behind l = length l.rest
