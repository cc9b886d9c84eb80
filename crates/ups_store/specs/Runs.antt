-- The rows of runs.
use Rattle.std.specs.Prelude.{◌≡◌, ℕ, ℤ, ◌+◌, ◌-◌, ◌<◌, ◌≤◌, ◌^◌, Bool, true, false, nat_le, if◌then◌else◌, List, [], ◌∷◌, Option, None, Some, is_some, ⊤}
use Rattle.std.specs.Int.{w64, cast_signed, cast_unsigned}
use Rattle.sqlite_value.specs.declared.value.Value.{Value}
use Rattle.sqlite_value.specs.declared.value.Value.TheVariants.{Null, Int, Text}
use Rattle.sqlite_value.specs.Order.{Row, column}
use Rattle.sqlite_trees.specs.Tree.{rowid, put_row}
use Rattle.sqlite_trees.specs.View.{View}
use Rattle.ups_store.specs.declared.runs.Run.{Run}
use Rattle.ups_store.specs.Cells.{number_cell, number_in, bytes_in}
use Rattle.ups_store.specs.Held.{LeavesOthers}

-- the cells of a run, in the order of their columns: when it began, its version and settings, the number of requests, and the
-- terms of the service
abbrev pub run_cells : Run → ℕ → List Value
run_cells run requests =
    number_cell run.moment
    ∷ Text run.version.now
    ∷ Text run.settings.now
    ∷ number_cell requests
    ∷ Text run.terms.now
    ∷ []

-- the row of the run with this number, written when there were that many requests
abbrev pub row_of_run : ℕ → Run → ℕ → Row
row_of_run number run requests = Int (cast_signed w64 number) ∷ Null ∷ run_cells run requests

-- the last of these rows, or an empty one if there is none
abbrev pub last_row : List Row → Row
last_row [] = []
last_row (row ∷ []) = row
last_row (row ∷ (next ∷ rows)) = last_row (next ∷ rows)

-- the row that a usable cursor gives next, or an empty one at its end
abbrev pub IsFirst : Option (List Row) → Row → Type 0
IsFirst None row = ⊤
IsFirst (Some []) row = row ≡ []
IsFirst (Some (first ∷ left)) row = row ≡ first

-- the number of the last run, or 0 if there is none
abbrev pub last_number : List Row → ℕ
last_number runs = number_in (rowid (last_row runs))

-- the number of requests when the row of the last run was written, or 0 if there is none
abbrev pub last_requests : List Row → ℕ
last_requests runs = number_in (column (last_row runs) 5)

-- the terms in the row of a run, or none: the row of a run of format 1 ends before them
abbrev pub terms_in : Row → Option (List ℕ)
terms_in row = bytes_in (column row 6)

-- the number of a run that began a hundred runs or more before the run with the first number
abbrev pub old_in : ℕ → Value → Option ℤ
old_in number (Int id) = if nat_le 100 (number - cast_unsigned w64 id) then Some id else None
old_in number _ = None

-- the number of the first of these runs, if it is that old
abbrev pub first_old : ℕ → List Row → Option ℤ
first_old number [] = None
first_old number (row ∷ rows) = old_in number (rowid row)

-- these rows from the first that is not that old
abbrev pub last_runs : ℕ → List Row → List Row
last_runs number [] = []
last_runs number (row ∷ rows) = if is_some (old_in number (rowid row)) then last_runs number rows else row ∷ rows

-- a step towards the last runs, or no step if no other rows are left
abbrev pub DropsTo : ℕ → List Row → List Row → Bool → Type 0
DropsTo number old new true = last_runs number new ≡ last_runs number old
DropsTo number old new false = new ≡ last_runs number old

-- the transaction is sound, and only deletes runs
pub record DropsRuns (old new : View) (number : ℕ) (goes_on : Bool) : Type 0 where
  pub sound : old.is_broken ≡ false
  pub stays : new.is_broken ≡ false
  pub others : LeavesOthers old new 1
  pub runs : DropsTo number (old.trees 1) (new.trees 1) goes_on

-- the transaction puts the row of a run after the last one, which counted no more requests, and deletes those of
-- runs that are too old
pub record Enters (old new : View) (number : ℕ) (run : Run) (requests_before : ℕ) : Type 0 where
  pub behind : number ≡ last_number (old.trees 1) + 1
  pub low : number < 2 ^ 63
  pub enough : last_requests (old.trees 1) ≤ requests_before
  pub sound : old.is_broken ≡ false
  pub stays : new.is_broken ≡ false
  pub others : LeavesOthers old new 1
  pub runs : new.trees 1 ≡ last_runs number (put_row (row_of_run number run requests_before) (old.trees 1))
