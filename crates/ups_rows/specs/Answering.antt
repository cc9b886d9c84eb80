-- What is found among rows, whoever tells which of them match (PS3.4 sections CC.2.8 and C.4.1).
use Rattle.std.specs.Prelude.{Bool, List, [], ◌∷◌, ◌++◌, map, filter}
use Rattle.ups_dataset.specs.Data.{El, answer}
use Rattle.ups_life.specs.declared.row.Row.{Row}

-- the attributes of each row
abbrev pub attributes_of_rows : {A : Type 0} → List (Row A) → List (List El)
attributes_of_rows {A} rows = map (λ (r : Row A). r.attributes) rows

-- the rows of parts, one part after another
abbrev pub rows_of_parts : List (List (List El)) → List (List El)
rows_of_parts [] = []
rows_of_parts (part ∷ parts) = part ++ rows_of_parts parts

-- the answers to the keys from those rows that pass a test
abbrev pub answers_among : (List El → Bool) → List El → List (List El) → List (List El)
answers_among says keys rows = map (λ r. answer r keys) (filter says rows)
