-- Which data sets match which keys (PS3.4 section C.2.2.2).
use Rattle.std.specs.Prelude.{ℕ, ℤ, Bool, true, false, ◌&&◌, ◌||◌, List, Option, None, Some, is_some, if◌then◌else◌}
use Rattle.std.specs.Str.{bytes_eq}
use Rattle.ups_pdu.specs.Padding.{without_padding}
use Rattle.ups_dataset.specs.declared.tag.Tag.{Tag}
use Rattle.ups_dataset.specs.Tag.{is_tag}
use Rattle.ups_dataset.specs.Data.{Data, bytes, items, Items, no_items, item, Elements, no_elements, element, El, elements_of}
use Rattle.ups_dataset.specs.Dictionary.{vr_of}
use Rattle.ups_match.specs.declared.rule.Rule.{Rule}
use Rattle.ups_match.specs.declared.rule.Rule.TheVariants.{UidList, WildCards, WildCardsInText, Range, OneOfValues, WholeValue}
use Rattle.ups_match.specs.declared.fault.KeyFault.{KeyFault}
use Rattle.ups_match.specs.declared.fault.KeyFault.TheVariants.{BadRange, TwoItems}
use Rattle.ups_match.specs.Likeness.{is_like}
use Rattle.ups_match.specs.Moments.{moment}
use Rattle.ups_match.specs.Ranges.{span_of, spans}
use Rattle.ups_match.specs.Values.{any_value, rule_of, text_vr, is_universal_text, is_no_key, shares_uid}

-- the rule for a key that is not a sequence, by its tag
abbrev pub key_rule : Tag → Rule
key_rule tag = rule_of (text_vr (vr_of tag))

-- a key matches a stored text; padding is part of neither
abbrev pub matches_text : Rule → ℤ → List ℕ → List ℕ → Bool
matches_text UidList offset key stored = shares_uid key stored
matches_text WildCards offset key stored = any_value (is_like (without_padding key)) stored
matches_text WildCardsInText offset key stored = is_like (without_padding key) (without_padding stored)
matches_text Range offset key stored = spans (span_of offset (without_padding key)) (moment (without_padding stored) offset false)
matches_text OneOfValues offset key stored = any_value (bytes_eq (without_padding key)) stored
matches_text WholeValue offset key stored = bytes_eq (without_padding key) (without_padding stored)

-- the value with this tag
abbrev pub value_at : Tag → Elements → Option Data
value_at tag no_elements = None
value_at tag (element t vr value more) = if is_tag t tag then Some value else value_at tag more

abbrev pub has_no_items : Items → Bool
has_no_items no_items = true
has_no_items (item es more) = false

-- A universal key matches any stored value, and also none: a key of zero length, * alone, a sequence with no items, or
-- one with one item whose keys are all universal.
abbrev mutual
  pub all_universal : Elements → Bool
  all_universal no_elements = true
  all_universal (element tag vr value more) = (is_no_key tag || is_universal value) && all_universal more

  pub is_universal : Data → Bool
  is_universal (bytes b) = is_universal_text b
  is_universal (items is) = universal_items is

  pub universal_items : Items → Bool
  universal_items no_items = true
  universal_items (item es more) = has_no_items more && all_universal es

abbrev pub is_universal_key : Tag → Data → Bool
is_universal_key tag value = is_no_key tag || is_universal value

-- some item passes a test
abbrev pub any_item : (Elements → Bool) → Items → Bool
any_item test no_items = false
any_item test (item es more) = test es || any_item test more

abbrev pub any_stored_item : (Elements → Bool) → Option Data → Bool
any_stored_item test None = false
any_stored_item test (Some (bytes b)) = false
any_stored_item test (Some (items is)) = any_item test is

abbrev pub matches_stored_text : Rule → ℤ → List ℕ → Option Data → Bool
matches_stored_text rule offset key None = false
matches_stored_text rule offset key (Some (bytes b)) = matches_text rule offset key b
matches_stored_text rule offset key (Some (items is)) = false

-- Each key of a set matches: it is universal, or it matches the stored value. A sequence with one item matches if all
-- keys of that item match one and the same stored item (PS3.4 section C.2.2.2.6).
abbrev mutual
  pub all_match : ℤ → Elements → Elements → Bool
  all_match offset no_elements row = true
  all_match offset (element tag vr value more) row = (is_universal_key tag value || value_matches offset tag value (value_at tag row)) && all_match offset more row

  pub value_matches : ℤ → Tag → Data → Option Data → Bool
  value_matches offset tag (bytes b) stored = matches_stored_text (key_rule tag) offset b stored
  value_matches offset tag (items is) stored = items_match offset is stored

  pub items_match : ℤ → Items → Option Data → Bool
  items_match offset no_items stored = true
  items_match offset (item es more) stored = any_stored_item (all_match offset es) stored

-- a data set matches the keys
unfoldable pub matches : ℤ → List El → List El → Bool
matches offset keys row = all_match offset (elements_of keys) (elements_of row)

-- Keys are readable, or have a fault: the first one by ascending tag.

abbrev pub first_key_fault : Option KeyFault → Option KeyFault → Option KeyFault
first_key_fault None later = later
first_key_fault (Some fault) later = Some fault

abbrev pub text_fault : Rule → ℤ → List ℕ → Option KeyFault
text_fault Range offset key = if is_universal_text key || is_some (span_of offset (without_padding key)) then None else Some BadRange
text_fault rule offset key = None

abbrev mutual
  pub keys_fault : ℤ → Elements → Option KeyFault
  keys_fault offset no_elements = None
  keys_fault offset (element tag vr value more) = first_key_fault (if is_no_key tag then None else key_fault offset tag value) (keys_fault offset more)

  pub key_fault : ℤ → Tag → Data → Option KeyFault
  key_fault offset tag (bytes b) = text_fault (key_rule tag) offset b
  key_fault offset tag (items is) = items_fault offset is

  pub items_fault : ℤ → Items → Option KeyFault
  items_fault offset no_items = None
  items_fault offset (item es more) = if has_no_items more then keys_fault offset es else Some TwoItems

-- the fault of the keys; None if they are readable
unfoldable pub fault_of : ℤ → List El → Option KeyFault
fault_of offset keys = keys_fault offset (elements_of keys)

-- keys, and the offset, in minutes east of UTC, of DT values that state none, in the keys and in stored data sets
pub record KeySet : Type 0 where
  pub attributes : List El
  pub offset : ℤ

-- a data set matches a key set
abbrev pub is_match : KeySet → List El → Bool
is_match keys row = matches keys.offset keys.attributes row
