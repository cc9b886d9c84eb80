-- The held steps, each with all that is held of it, in the form of the definitions. Histories are listed with their
-- newest entry first.
use Rattle.std.specs.Prelude.{ℕ, List, [], ◌∷◌, map, Option, None, Some, if◌then◌else◌}
use Rattle.std.specs.Option.{option_map}
use Rattle.std.specs.Str.{bytes_eq}
use Rattle.ups_dataset.specs.Data.{El}
use Rattle.ups_life.specs.declared.entry.Entry.{Entry}
use Rattle.ups_life.specs.declared.row.Row.{Row}
use Rattle.ups_life.specs.declared.row.Holder.{Holder}
use Rattle.ups_life.specs.Settings.{Settings}
use Rattle.ups_life.specs.Steps.{holder, row_of, taken}
use Rattle.ups_life.specs.Watching.{held, is_held}
use Rattle.ups_tables.specs.declared.rows.HeldStep.{HeldStep}

-- THE STEPS AFTER A HISTORY

-- the step u with what is held of it and who has claimed it
abbrev pub held_step : {A : Type 0} → Settings → List (Entry A) → List ℕ → HeldStep A
held_step s es u = record { step = u; row = row_of s es u; holder = holder es u }

-- THE STEPS HELD, in order of creation
abbrev pub held_steps : {A : Type 0} → Settings → List (Entry A) → List (HeldStep A)
held_steps s es = map (held_step s es) (held s es)

-- who has claimed u (PS3.4 CC.2.1); None also if u is not held
abbrev pub holder_of : {A : Type 0} → Settings → List (Entry A) → List ℕ → Option Holder
holder_of s es u = if is_held s es u then holder es u else None

-- who claims a step by an entry; None if the entry is no claim (PS3.4 CC.2.1)
abbrev pub claims_it : {A : Type 0} → Entry A → Option Holder
claims_it e = option_map (λ uid. record { caller = e.caller; ae = e.ae }) (taken e.request)

-- A STEP IN A LIST

-- the step with this UID
abbrev pub step_at : {A : Type 0} → List ℕ → List (HeldStep A) → Option (HeldStep A)
step_at u [] = None
step_at u (h ∷ hs) = if bytes_eq h.step u then Some h else step_at u hs

-- the steps after one is put in the place of the step with its UID, or at the end if there is none
abbrev pub put_step : {A : Type 0} → HeldStep A → List (HeldStep A) → List (HeldStep A)
put_step x [] = x ∷ []
put_step x (h ∷ hs) = if bytes_eq h.step x.step then x ∷ hs else h ∷ put_step x hs

-- the attributes of each step
abbrev pub attributes_in : {A : Type 0} → List (HeldStep A) → List (List El)
attributes_in {A} hs = map (λ (h : HeldStep A). h.row.attributes) hs

-- the row of the step with this UID
abbrev pub row_in : {A : Type 0} → List ℕ → List (HeldStep A) → Option (Row A)
row_in {A} u hs = option_map (λ (h : HeldStep A). h.row) (step_at u hs)

-- the row of the step that a request names; None if it names no step, or one that is not in the list
abbrev pub row_of_step : {A : Type 0} → Option (List ℕ) → List (HeldStep A) → Option (Row A)
row_of_step None hs = None
row_of_step (Some u) hs = row_in u hs

-- who has claimed a step, by the result of its lookup
abbrev pub holder_in : {A : Type 0} → Option (HeldStep A) → Option Holder
holder_in None = None
holder_in (Some h) = h.holder
