-- The Input Readiness States (PS3.3 C.30.2).
use Rattle.std.specs.Prelude.{ℕ, Bool, List, [], Option, None, Some, codes, if◌then◌else◌}
use Rattle.std.specs.Str.{bytes_eq}
use Rattle.ups_pdu.specs.Padding.{without_padding}
use Rattle.ups_dataset.specs.declared.dictionary.TheConstants.{INPUT_READINESS_STATE}
use Rattle.ups_dataset.specs.Data.{Data, bytes, items, El, element_at}
use Rattle.ups_life.specs.declared.readiness.InputReadiness.{InputReadiness}
use Rattle.ups_life.specs.declared.readiness.InputReadiness.TheVariants.{Incomplete, Unavailable, Ready}

abbrev pub readiness_text : InputReadiness → List ℕ
readiness_text Incomplete = codes "INCOMPLETE"
readiness_text Unavailable = codes "UNAVAILABLE"
readiness_text Ready = codes "READY"

-- the readiness that a value names, apart from its padding
abbrev pub readiness_of : List ℕ → Option InputReadiness
readiness_of value =
    if bytes_eq (without_padding value) (readiness_text Incomplete) then Some Incomplete else (
    if bytes_eq (without_padding value) (readiness_text Unavailable) then Some Unavailable else (
    if bytes_eq (without_padding value) (readiness_text Ready) then Some Ready else None))

abbrev pub readiness_value : Data → Option InputReadiness
readiness_value (bytes b) = readiness_of b
readiness_value (items is) = None

-- the readiness that an attribute names
abbrev pub named_readiness : Option El → Option InputReadiness
named_readiness None = None
named_readiness (Some e) = readiness_value e.value

-- the readiness in a set of attributes
abbrev pub readiness_in : List El → Option InputReadiness
readiness_in attributes = named_readiness (element_at INPUT_READINESS_STATE attributes)

-- the text of a readiness; empty if there is none
abbrev pub readiness_word : Option InputReadiness → List ℕ
readiness_word None = []
readiness_word (Some readiness) = readiness_text readiness

-- both are the same readiness, or both are None
abbrev pub is_same_readiness : Option InputReadiness → Option InputReadiness → Bool
is_same_readiness one other = bytes_eq (readiness_word one) (readiness_word other)
