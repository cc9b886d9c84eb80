-- The rows that a cursor gives.
use Rattle.std.specs.Prelude.{◌≡◌, ◌≢◌, ℕ, ◌+◌, ◌≤◌, ◌^◌, ◌<◌, ⊤, pos, Some, List, [], ◌∷◌}
use Rattle.sqlite_value.specs.Order.{Row}
use Rattle.sqlite_trees.specs.View.{View}
use Rattle.ups_store.specs.declared.reading.Taken.{Taken}
use Rattle.ups_store.specs.declared.reading.Taken.TheVariants.{End, Other, Beyond, One}
use Rattle.ups_store.specs.Rows.{request_row, request_in}

-- the cursor gave this row, and only cursors have moved
pub record Steps (old new : View) (row : Row) : Type 0 where
  pub left : List Row
  pub before : old.cursors 0 ≡ Some (row ∷ left)
  pub after : new.cursors 0 ≡ Some left
  pub same : new ≡ record old { cursors = new.cursors }

-- the next row is request number count + 1, or another; or no row is left, or that number reaches 2^63
abbrev pub TakesNext : View → View → ℕ → Taken → Type 0
TakesNext old new count End = (old.cursors 0 ≡ Some []) × (new ≡ record old { cursors = new.cursors })
TakesNext old new count Other = (row : Row) × (row ≢ request_row (pos (count + 1)) (request_in row)) × Steps old new row
TakesNext old new count Beyond = 2 ^ 63 ≤ count + 1
TakesNext old new count (One request) = (row : Row) × (row ≡ request_row (pos (count + 1)) request) × (request_in row ≡ request) × Steps old new row

-- the number of a request that was taken is below 2^63
abbrev pub IsLow : ℕ → Taken → Type 0
IsLow count End = ⊤
IsLow count Other = ⊤
IsLow count Beyond = ⊤
IsLow count (One request) = count + 1 < 2 ^ 63
