use Rattle.std.proofs.Common.{◌≡◌, ℕ, List, length}
use Rattle.std.specs.Prelude.{◌||◌}
use Rattle.std.specs.Str.{bytes_eq}
use Rattle.ups_match.specs.Uids.{has_uid}
use Rattle.ups_match.specs.Values.{any_value}
use Rattle.ups_match.proofs.uids.uids_of.Given as goal

abbrev pub invariant-loop-uids : goal.invariant-loop-uids
invariant-loop-uids g l = (other : List ℕ) → (any_value (bytes_eq other) l.rest || has_uid l.uids other) ≡ any_value (bytes_eq other) l.text

abbrev pub decreases-loop-uids : goal.decreases-loop-uids
decreases-loop-uids g l = length l.rest
