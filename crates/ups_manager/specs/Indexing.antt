-- What the index has of the held steps, and how an accepted request changes it.
use Rattle.std.specs.Prelude.{◌≡◌, ◌≤◌, ℕ, ℤ, not, List, map, filter}
use Rattle.ups_index.specs.Indexed.{Contents, values_len, put_values}
use Rattle.ups_index.specs.Stored.{RowValues, values_of_row}
use Rattle.ups_life.specs.declared.entry.Entry.{Entry}
use Rattle.ups_life.specs.Settings.{Settings}
use Rattle.ups_life.specs.Watching.{is_among}
use Rattle.ups_tables.specs.declared.rows.HeldStep.{HeldStep}
use Rattle.ups_tables.specs.HeldSteps.{held_steps}
use Rattle.ups_manager.specs.declared.indexing.IndexChange.{IndexChange}
use Rattle.ups_manager.specs.declared.indexing.IndexChange.TheVariants.{Put, Remove, Nothing}

-- a held step, with the values by which it is found
abbrev pub indexed : {A : Type 0} → ℤ → HeldStep A → List ℕ × RowValues
indexed offset h = (h.step, values_of_row offset h.row.attributes)

-- the steps held after a history, in order of creation, each with its values
abbrev pub indexed_steps : {A : Type 0} → Settings → List (Entry A) → List (List ℕ × RowValues)
indexed_steps s es = map (indexed s.offset) (held_steps s es)

-- the UIDs of steps
abbrev pub uids_in : {A : Type 0} → List (HeldStep A) → List (List ℕ)
uids_in {A} hs = map (λ (h : HeldStep A). h.step) hs

-- the index has exactly the held steps, with their starts read by the offset of the service
pub record IsIndexed {A : Type 0} (s : Settings) (es : List (Entry A)) (index : Contents) : Type 0 where
  pub offset : index.offset ≡ s.offset
  pub steps : index.steps ≡ indexed_steps s es

-- the steps other than these
abbrev pub without_steps : List (List ℕ) → List (List ℕ × RowValues) → List (List ℕ × RowValues)
without_steps us steps = filter (λ s. not (is_among s.0 us)) steps

-- the entries of the index after a change of it, given the steps that the request removes
abbrev pub after_change : {A : Type 0} → IndexChange A → List (List ℕ) → List (List ℕ × RowValues) → List (List ℕ × RowValues)
after_change (Put step values) removed steps = put_values step values steps
after_change Remove removed steps = without_steps removed steps
after_change Nothing removed steps = steps

-- there is room for the change
abbrev pub has_room : {A : Type 0} → ℕ → IndexChange A → Type 0
has_room spare (Put step values) = values_len values ≤ spare
has_room spare Remove = Unit {0}
has_room spare Nothing = Unit {0}
