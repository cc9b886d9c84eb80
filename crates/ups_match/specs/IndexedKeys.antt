-- The attributes by which steps are looked up, in the order in which those of a query are tried, each with what of it is
-- looked up.
use Rattle.std.specs.Prelude.{Bool, true, false, ◌&&◌, List, [], ◌∷◌}
use Rattle.std.specs.List.{list_any}
use Rattle.ups_dataset.specs.declared.tag.Tag.{Tag}
use Rattle.ups_dataset.specs.Tag.{is_tag}
use Rattle.ups_match.specs.declared.indexed.Indexed.{Indexed}
use Rattle.ups_match.specs.declared.indexed.KeyKind.{KeyKind}
use Rattle.ups_match.specs.declared.indexed.KeyKind.TheVariants.{Value, Code}

-- SOP Instance UID, Patient ID, Worklist Label, Scheduled Station Name Code Sequence, Procedure Step State, Scheduled
-- Procedure Step Priority
abbrev pub indexed_keys : List Indexed
indexed_keys =
    record { tag = record { group = 0x0008; element = 0x0018 }; kind = Value }
    ∷ record { tag = record { group = 0x0010; element = 0x0020 }; kind = Value }
    ∷ record { tag = record { group = 0x0074; element = 0x1202 }; kind = Value }
    ∷ record { tag = record { group = 0x0040; element = 0x4025 }; kind = Code }
    ∷ record { tag = record { group = 0x0074; element = 0x1000 }; kind = Value }
    ∷ record { tag = record { group = 0x0074; element = 0x1200 }; kind = Value }
    ∷ []

abbrev pub is_code : KeyKind → Bool
is_code Value = false
is_code Code = true

-- the tag is that of an indexed code sequence
abbrev pub is_code_key : Tag → Bool
is_code_key tag = list_any (λ k. is_tag tag k.tag && is_code k.kind) indexed_keys
