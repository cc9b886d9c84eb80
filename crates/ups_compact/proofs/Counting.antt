-- What the code needs: looking up a step, and the last of a list.
use Rattle.std.proofs.Common.{◌≡◌, ℕ, Bool, ◌||◌, List, ap, ◌∙◌}
use Rattle.std.specs.Str.{bytes_eq}
use Rattle.std.specs.Cmp.Lexicographic.{nat_list_eq_equiv}
use Rattle.std.specs.BTreeSet.{BTreeSet, insert_key}
use Rattle.std.specs.Cmp.Lexicographic.{slice_cmp}
use Rattle.std.specs.Ordering.{nat_cmp}
use Rattle.std.specs.declared.vec.Vec.{Vec}
use Rattle.ups_match.specs.Uids.{has_uid}
use Rattle.ups_match.proofs.UidSets.{has_put}

-- a UID that is put among others
pub has_added : {Z : Type 0} (old new : BTreeSet (Vec ℕ Z)) (k : Vec ℕ Z) (uid other : List ℕ) → new.keys ≡ insert_key (λ x y. slice_cmp nat_cmp x.items y.items) old.keys k → k.items ≡ uid → has_uid new other ≡ (bytes_eq uid other || has_uid old other)
has_added old new k uid other put is = has_put old new k uid other put is ∙ ap (λ (b : Bool). b || has_uid old other) (nat_list_eq_equiv.symm other uid)
