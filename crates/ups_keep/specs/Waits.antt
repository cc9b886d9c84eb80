-- What the list of the final steps that nobody locks says about each step: whether it waits for removal, and since
-- when.
use Rattle.std.specs.Prelude.{ℕ, Bool, List, [], ◌∷◌, map, Option, None, Some, if◌then◌else◌}
use Rattle.std.specs.Str.{bytes_eq}
use Rattle.ups_keep.specs.declared.due.Final.{Final}

-- the UIDs of the steps of such a list
abbrev pub steps_of : List Final → List (List ℕ)
steps_of xs = map (λ (x : Final). x.step) xs

-- since when u waits: the moment at which it became final; None if it is not in the list
abbrev pub waits : List ℕ → List Final → Option ℕ
waits u [] = None
waits u (x ∷ xs) = if bytes_eq x.step u then Some x.moment else waits u xs

-- since when a step waits, by when it became final, if it did: None while a peer has a Deletion Lock on it
-- (PS3.4 CC.2.3)
abbrev pub unless_kept : Bool → Option ℕ → Option ℕ
unless_kept kept final_at = if kept then None else final_at

-- the moment, if it passes the test
abbrev pub only_where : (ℕ → Bool) → Option ℕ → Option ℕ
only_where test None = None
only_where test (Some moment) = if test moment then Some moment else None

-- the list of one step that waits since then; empty if it doesn't wait
abbrev pub final_since : List ℕ → Option ℕ → List Final
final_since step None = []
final_since step (Some moment) = record { moment = moment; step = step } ∷ []
