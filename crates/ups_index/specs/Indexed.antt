-- The contents of the index as its callers see them, and how they change.
use Rattle.std.specs.Prelude.{ℕ, ℤ, ◌+◌, Bool, not, List, [], ◌∷◌, ◌++◌, length, map, filter, if◌then◌else◌}
use Rattle.std.specs.List.{list_any}
use Rattle.std.specs.Str.{bytes_eq}
use Rattle.ups_match.specs.Class.{FirstKey}
use Rattle.ups_index.specs.Stored.{RowValues, has_first}

-- the offset by which starts are read, the steps with their values, in order of creation, and the number of further
-- values for which there is room
pub record Contents : Type 0 where
  pub offset : ℤ
  pub steps : List (List ℕ × RowValues)
  pub spare : ℕ

-- the number of values: one for each text, and one for the start
abbrev pub values_len : RowValues → ℕ
values_len values = length values.texts + 1

abbrev pub has_step : List ℕ → List (List ℕ × RowValues) → Bool
has_step step steps = list_any (λ s. bytes_eq s.0 step) steps

-- the steps after one is given other values in its place
abbrev pub altered : List ℕ → RowValues → List (List ℕ × RowValues) → List (List ℕ × RowValues)
altered step values steps = map (λ s. if bytes_eq s.0 step then (step, values) else s) steps

-- the steps after one is given these values: in its place, or at the end if it is not there
abbrev pub put_values : List ℕ → RowValues → List (List ℕ × RowValues) → List (List ℕ × RowValues)
put_values step values steps = if has_step step steps then altered step values steps else steps ++ (step, values) ∷ []

-- the steps other than this one
abbrev pub without_uid : List ℕ → List (List ℕ × RowValues) → List (List ℕ × RowValues)
without_uid step steps = filter (λ s. not (bytes_eq s.0 step)) steps

-- the UIDs of the steps that have the first indexed key, in order
abbrev pub indexed_class : FirstKey → List (List ℕ × RowValues) → List (List ℕ)
indexed_class first steps = map (λ s. s.0) (filter (λ s. has_first first s.1) steps)
