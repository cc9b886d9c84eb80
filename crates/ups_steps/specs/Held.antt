-- The steps that are held, each under its UID.
use Rattle.std.specs.Prelude.{ℕ, List, map, Option, None, Some}
use Rattle.std.specs.Map.{lookup}
use Rattle.std.specs.Str.{bytes_eq}
use Rattle.ups_dataset.specs.Data.{El}
use Rattle.indexmap.specs.IndexMap.{insert_entry}
use Rattle.ups_steps.specs.declared.held.HeldRow.{HeldRow}

-- what is held of u; None if u is not held
abbrev pub held_at : {A : Type 0} → List ℕ → List (List ℕ × HeldRow A) → Option (HeldRow A)
held_at u hs = lookup (bytes_eq u) hs

-- when the state of a step became final, by what is held of it; None if it is not final, or not held
abbrev pub final_of : {A : Type 0} → Option (HeldRow A) → Option ℕ
final_of None = None
final_of (Some h) = h.row.final_at

-- the steps held once h is held of u: in place of what was held of u, or after the others if nothing was
abbrev pub put_held : {A : Type 0} → List ℕ → HeldRow A → List (List ℕ × HeldRow A) → List (List ℕ × HeldRow A)
put_held u h hs = insert_entry bytes_eq hs u h

-- the attributes of each step, in order of creation
abbrev pub attributes_held : {A : Type 0} → List (List ℕ × HeldRow A) → List (List El)
attributes_held {A} hs = map (λ (e : List ℕ × HeldRow A). e.1.row.attributes) hs
