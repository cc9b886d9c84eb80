-- The worklist: which steps match the keys, and which attributes are returned (PS3.4 sections CC.2.8 and C.4.1).
use Rattle.std.specs.Prelude.{Bool, List, map, filter}
use Rattle.ups_dataset.specs.Data.{El, answer}
use Rattle.ups_match.specs.Matching.{KeySet, is_match}
use Rattle.ups_life.specs.declared.entry.Entry.{Entry}
use Rattle.ups_life.specs.Settings.{Settings}
use Rattle.ups_life.specs.Steps.{row}
use Rattle.ups_life.specs.Watching.{held}

-- the attributes of the steps held, in order of creation
abbrev pub rows : {A : Type 0} → Settings → List (Entry A) → List (List El)
rows s es = map (row s es) (held s es)

-- for each row that passes a test, the attributes that the keys ask for
abbrev pub found : {A : Type 0} → (KeySet → List El → Bool) → Settings → List (Entry A) → KeySet → List (List El)
found says s es keys = map (λ r. answer r keys.attributes) (filter (says keys) (rows s es))

-- THE WORKLIST (PS3.4 sections CC.2.8 and C.4.1): the steps held that match, in order of creation, each with the keys'
-- attributes. No row has the Transaction UID, so its value is never returned.
abbrev pub worklist : {A : Type 0} → Settings → List (Entry A) → KeySet → List (List El)
worklist s es keys = found is_match s es keys
