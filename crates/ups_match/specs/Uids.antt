-- Ordered sets of UIDs.
use Rattle.std.specs.Prelude.{ℕ, Bool, List, [], Option, None, Some}
use Rattle.std.specs.BTreeSet.{BTreeSet, contains_by}
use Rattle.std.specs.Cmp.Lexicographic.{slice_cmp}
use Rattle.std.specs.List.{slice_split}
use Rattle.std.specs.Ordering.{nat_cmp}
use Rattle.std.specs.declared.vec.Vec.{Vec}
use Rattle.ups_match.specs.Values.{is_backslash}

-- a set contains a UID
abbrev pub has_uid : {Z : Type 0} → BTreeSet (Vec ℕ Z) → List ℕ → Bool
has_uid uids uid = contains_by (λ other. slice_cmp nat_cmp uid other.items) uids

-- the values of a text; none if there is no text
abbrev pub values_of : Option (List ℕ) → List (List ℕ)
values_of None = []
values_of (Some text) = slice_split is_backslash text
