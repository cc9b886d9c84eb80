-- The claims of a step, of which a legal history has at most one (PS3.4 CC.1.1).
use Rattle.std.specs.Prelude.{ℕ, List, [], ◌∷◌, ◌++◌, Option, None, Some, if◌then◌else◌}
use Rattle.ups_life.specs.declared.entry.Entry.{Entry}
use Rattle.ups_life.specs.Steps.{Claim, claimed, is_on}

abbrev pub listed : Option Claim → List Claim
listed None = []
listed (Some c) = c ∷ []

-- all claims of u, newest first
abbrev pub claims : {A : Type 0} → List (Entry A) → List ℕ → List Claim
claims [] u = []
claims (e ∷ es) u = (if is_on u e.request then listed (claimed e) else []) ++ claims es u
