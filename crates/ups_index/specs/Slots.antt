-- The slots of steps.
use Rattle.std.specs.Prelude.{ℕ, zero, suc, nat_eq, List, [], ◌∷◌, Option}
use Rattle.std.specs.Option.{option_map}
use Rattle.std.specs.List.{filter_map}
use Rattle.std.specs.Map.{lookup}
use Rattle.ups_index.specs.declared.slot_table.IndexedStep.{IndexedStep}
use Rattle.ups_index.specs.Stored.{RowValues}

-- what is in a slot: a step and its values, or nothing once the step is removed
abbrev pub IndexSlot : Type 0
IndexSlot = Option (List ℕ × RowValues)

-- slots as contracts see them, and the number of further steps for which there is room
pub record Slots : Type 0 where
  pub slots : List IndexSlot
  pub room : ℕ

-- the steps in slots
abbrev pub seen_slots : List IndexSlot → List (List ℕ × RowValues)
seen_slots slots = filter_map (λ (slot : IndexSlot). slot) slots

abbrev pub seen_step : {A : Type 0} → IndexedStep A → List ℕ × RowValues
seen_step x = (x.step, x.values)

-- the slot at a place
abbrev pub slot_in : {A : Type 0} → List (ℕ × IndexedStep A) → ℕ → IndexSlot
slot_in steps place = option_map seen_step (lookup (nat_eq place) steps)

-- so many slots from a place on
abbrev pub slots_from : {A : Type 0} → List (ℕ × IndexedStep A) → ℕ → ℕ → List IndexSlot
slots_from steps place zero = []
slots_from steps place (suc count) = slot_in steps place ∷ slots_from steps (suc place) count
