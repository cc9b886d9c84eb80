-- The first indexed key of a query: the held steps are looked up by it, and only those found are compared with the
-- other keys.
use Rattle.std.specs.Prelude.{ℕ, ℤ, Bool, true, false, ◌||◌, not, List, [], ◌∷◌, Option, None, Some, filter, if◌then◌else◌}
use Rattle.std.specs.List.{list_any}
use Rattle.std.specs.Ordering.{int_eq}
use Rattle.ups_pdu.specs.Padding.{is_nil, without_padding}
use Rattle.ups_dataset.specs.declared.tag.Tag.{Tag}
use Rattle.ups_dataset.specs.declared.dictionary.TheConstants.{CODE_VALUE, SCHEDULED_PROCEDURE_STEP_START_DATE_TIME}
use Rattle.ups_dataset.specs.Data.{Data, bytes, items, no_items, item, Elements, El, elements_of}
use Rattle.ups_match.specs.declared.first.First.{First}
use Rattle.ups_match.specs.declared.first.First.TheVariants as variants
use Rattle.ups_match.specs.declared.indexed.Indexed.{Indexed}
use Rattle.ups_match.specs.declared.indexed.KeyKind.{KeyKind}
use Rattle.ups_match.specs.declared.indexed.KeyKind.TheVariants.{Value, Code}
use Rattle.ups_match.specs.declared.ranges.Span.{Span}
use Rattle.ups_match.specs.IndexedKeys.{indexed_keys, is_code_key}
use Rattle.ups_match.specs.Likeness.{is_star, is_question_mark}
use Rattle.ups_match.specs.Matching.{KeySet, key_rule, value_at, any_stored_item}
use Rattle.ups_match.specs.Met.{stored_text_met}
use Rattle.ups_match.specs.Moments.{moment}
use Rattle.ups_match.specs.Ranges.{span_of, spans}
use Rattle.ups_match.specs.Values.{is_backslash, is_universal_text}

-- a byte with a special meaning in a key: a wild card, or the separator of values
abbrev pub is_special : ℕ → Bool
is_special byte = is_star byte || (is_question_mark byte || is_backslash byte)

-- the text, if it is one value that is not empty and has no wild cards
abbrev pub plain : List ℕ → Option (List ℕ)
plain text = if is_nil text || list_any is_special text then None else Some text

-- the one value that a key asks for
abbrev pub plain_value : Option Data → Option (List ℕ)
plain_value None = None
plain_value (Some (bytes b)) = plain (without_padding b)
plain_value (Some (items is)) = None

-- the one code value that the first item of a key asks for
abbrev pub plain_code : Option Data → Option (List ℕ)
plain_code None = None
plain_code (Some (bytes b)) = None
plain_code (Some (items no_items)) = None
plain_code (Some (items (item es more))) = plain_value (value_at CODE_VALUE es)

-- the criterion of a lookup: the value of an attribute, a range of the start, or none
pub data FirstKey : Type 0 where
  value : Tag → List ℕ → FirstKey
  start : Span → FirstKey
  all : FirstKey

-- the key with this tag, if it asks for one value; otherwise the later one
abbrev pub or_else : Tag → Option (List ℕ) → FirstKey → FirstKey
or_else tag None later = later
or_else tag (Some text) later = value tag text

abbrev pub range_key : Option Span → FirstKey
range_key None = all
range_key (Some span) = start span

-- the range of the start, if there is one and its offset is that of the service
abbrev pub start_key : ℤ → ℤ → Option Data → FirstKey
start_key configured offset None = all
start_key configured offset (Some (bytes b)) = if is_universal_text b || not (int_eq offset configured) then all else range_key (span_of offset (without_padding b))
start_key configured offset (Some (items is)) = all

-- the one value or code value that a key asks for
abbrev pub text_asked : KeyKind → Option Data → Option (List ℕ)
text_asked Value key = plain_value key
text_asked Code key = plain_code key

-- the first key of a table that asks for one value; otherwise the later one
abbrev pub first_of : List Indexed → Elements → FirstKey → FirstKey
first_of [] keys later = later
first_of (k ∷ ks) keys later = or_else k.tag (text_asked k.kind (value_at k.tag keys)) (first_of ks keys later)

abbrev pub first_among : ℤ → ℤ → Elements → FirstKey
first_among configured offset keys = first_of indexed_keys keys (start_key configured offset (value_at SCHEDULED_PROCEDURE_STEP_START_DATE_TIME keys))

-- the first indexed key of a query, for a service with this offset
unfoldable pub first_key : ℤ → KeySet → FirstKey
first_key configured keys = first_among configured keys.offset (elements_of keys.attributes)

-- the first moment of a stored start
abbrev pub moment_stored : ℤ → Option Data → Option ℤ
moment_stored offset None = None
moment_stored offset (Some (bytes b)) = moment (without_padding b) offset false
moment_stored offset (Some (items is)) = None

abbrev pub start_of : ℤ → Elements → Option ℤ
start_of offset row = moment_stored offset (value_at SCHEDULED_PROCEDURE_STEP_START_DATE_TIME row)

-- a data set matches the first indexed key alone; of a code sequence, only the code values are compared
abbrev pub meets_first : ℤ → FirstKey → Elements → Bool
meets_first offset (value tag text) row =
    if is_code_key tag
    then any_stored_item (λ code. stored_text_met (key_rule CODE_VALUE) offset text (value_at CODE_VALUE code)) (value_at tag row)
    else stored_text_met (key_rule tag) offset text (value_at tag row)
meets_first offset (start span) row = spans (Some span) (start_of offset row)
meets_first offset all row = true

-- the class of a query: the rows that match its first indexed key, regardless of its other keys
unfoldable pub class : ℤ → KeySet → List (List El) → List (List El)
class configured keys rows = filter (λ row. meets_first keys.offset (first_key configured keys) (elements_of row)) rows

-- the first indexed key that the code returns
abbrev pub first_view : First → FirstKey
first_view (variants.Value tag text) = value tag text.now
first_view (variants.Start span) = start span
first_view variants.All = all
