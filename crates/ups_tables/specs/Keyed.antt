-- The steps that the tables hold, each with its UID, in the form of the definitions.
use Rattle.std.specs.Prelude.{ℕ, List, map, Option, None, Some}
use Rattle.std.specs.Option.{option_map}
use Rattle.ups_life.specs.declared.row.Row.{Row}
use Rattle.ups_life.specs.declared.row.Holder.{Holder}
use Rattle.ups_tables.specs.declared.rows.HeldStep.{HeldStep}
use Rattle.ups_steps.specs.declared.held.HeldRow.{HeldRow}

-- a step from its UID and what is held of it
abbrev pub step_with_held : {A : Type 0} → List ℕ → HeldRow A → HeldStep A
step_with_held step held = record { step = step; row = held.row; holder = held.holder }

-- the step of an entry of the table
abbrev pub as_step : {A : Type 0} → List ℕ × HeldRow A → HeldStep A
as_step e = step_with_held e.0 e.1

-- the steps of the table, in their order there
abbrev pub as_steps : {A : Type 0} → List (List ℕ × HeldRow A) → List (HeldStep A)
as_steps es = map as_step es

-- the row of a step, from what is held of it; None if nothing is held
abbrev pub row_held : {A : Type 0} → Option (HeldRow A) → Option (Row A)
row_held {A} o = option_map (λ (h : HeldRow A). h.row) o

-- who has claimed a step, from what is held of it (PS3.4 CC.2.1); None if nobody has, or if nothing is held
abbrev pub holder_held : {A : Type 0} → Option (HeldRow A) → Option Holder
holder_held None = None
holder_held (Some h) = h.holder
