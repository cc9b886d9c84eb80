-- UIDs that are put in order a few at a time.
use Rattle.std.specs.Prelude.{◌≡◌, ◌≤◌, ℕ, List, length, take}
use Rattle.std.specs.BTreeSet.{BTreeSet}
use Rattle.std.specs.declared.vec.Vec.{Vec}
use Rattle.ups_match.specs.Uids.{has_uid}
use Rattle.ups_life.specs.Watching.{is_among}

-- the set has the UIDs of the first so many steps
pub record AreSorted {Z : Type 0} (uids : BTreeSet (Vec ℕ Z)) (sorted : ℕ) (steps : List (List ℕ)) : Type 0 where
  pub within : sorted ≤ length steps
  pub are : (uid : List ℕ) → has_uid uids uid ≡ is_among uid (take sorted steps)
