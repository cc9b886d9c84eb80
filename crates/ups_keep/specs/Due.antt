-- The final steps that nobody locks, in the order of the moments at which they became final. How long a step is kept
-- after that is a rule of the profile; a step with a Deletion Lock is not among them (PS3.4 CC.2.3).
use Rattle.std.specs.Prelude.{◌≡◌, ◌<◌, slice_index_or, ℕ, Bool, false, not, ◌&&◌, nat_eq, nat_le, List, [], ◌∷◌, filter, if◌then◌else◌}
use Rattle.std.specs.Str.{bytes_eq}
use Rattle.ups_keep.specs.declared.due.Final.{Final}

-- what callers see: the steps in the order of their moments, and for how many more there is room
pub record DueView : Type 0 where
  pub steps : List Final
  pub spare : ℕ

-- the list with one more step, which comes after those of the same moment or an earlier one
abbrev pub inserted : Final → List Final → List Final
inserted x [] = x ∷ []
inserted x (y ∷ ys) = if nat_le y.moment x.moment then y ∷ inserted x ys else x ∷ y ∷ ys

-- both are the same step, final since the same moment
abbrev pub is_same_final : Final → Final → Bool
is_same_final x y = nat_eq x.moment y.moment && bytes_eq x.step y.step

-- the list without a step, if it is there: the first that is the same is left out
abbrev pub without_final : Final → List Final → List Final
without_final x [] = []
without_final x (y ∷ ys) = if is_same_final x y then ys else y ∷ without_final x ys

-- the steps that a sweep up to this moment removes: those that became final no later (the profile's rule of retention)
abbrev pub due_until : ℕ → List Final → List Final
due_until moment xs = filter (λ (x : Final). nat_le x.moment moment) xs

-- the steps that such a sweep leaves
abbrev pub later_than : ℕ → List Final → List Final
later_than moment xs = filter (λ (x : Final). not (nat_le x.moment moment)) xs

-- when a step became final: the list is in this order
abbrev pub moment_of : Final → ℕ
moment_of x = x.moment

-- the first step of the list became final no later than this moment
abbrev pub is_any : ℕ → List Final → Bool
is_any moment [] = false
is_any moment (x ∷ xs) = nat_le x.moment moment

-- none of the first k is the same as this step
abbrev pub NoneSame : Final → ℕ → List Final → Type 0
NoneSame x k xs = (i : ℕ) (d : Final) → i < k → is_same_final x (slice_index_or xs i d) ≡ false
