-- What the calls on the draft do.
use Rattle.std.specs.Prelude.{◌≡◌, ℕ, ℤ, ◌-◌, ◌<◌, ◌≤◌, Bool, true, false, List, [], length, take, Option, None, Some}
use Rattle.sqlite_value.specs.declared.value.Value.{Value}
use Rattle.sqlite_value.specs.declared.value.Value.TheVariants.{Int}
use Rattle.sqlite_value.specs.Order.{Row}
use Rattle.sqlite_trees.specs.View.{View}
use Rattle.ups_store.specs.Held.{LeavesOthers}

-- the number of a row, or none of an empty row
abbrev pub id_in : Value → Option ℤ
id_in (Int id) = Some id
id_in _ = None

-- the last row is deleted, or there is none
abbrev pub DrainsTo : List Row → List Row → Bool → Type 0
DrainsTo old new true = (0 < length old) × (new ≡ take (length old - 1) old)
DrainsTo old new false = (old ≡ []) × (new ≡ [])

-- the transaction is sound, and only deletes the last row of this tree
pub record Drains (old new : View) (table : ℕ) (goes_on : Bool) : Type 0 where
  pub sound : old.is_broken ≡ false
  pub stays : new.is_broken ≡ false
  pub others : LeavesOthers old new table
  pub rows : DrainsTo (old.trees table) (new.trees table) goes_on

-- the transaction is sound, and only deletes the last rows of this tree, at most `most`; it says whether it found none
pub record Cuts (old new : View) (table most : ℕ) (none : Bool) : Type 0 where
  pub sound : old.is_broken ≡ false
  pub stays : new.is_broken ≡ false
  pub others : LeavesOthers old new table
  pub rows : new.trees table ≡ take (length (old.trees table) - most) (old.trees table)
  pub few : none ≡ true → length (old.trees table) < most
  pub many : none ≡ false → most ≤ length (old.trees table)
