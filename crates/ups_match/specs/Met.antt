-- Prepared keys: the universal ones are left out, and no other has padding at the end of its text.
use Rattle.std.specs.Prelude.{◌≡◌, ℕ, ℤ, Bool, true, false, ◌&&◌, List, Option, None, Some}
use Rattle.std.specs.Str.{bytes_eq}
use Rattle.ups_pdu.specs.Padding.{without_padding}
use Rattle.ups_dataset.specs.declared.tag.Tag.{Tag}
use Rattle.ups_dataset.specs.Data.{Data, bytes, items, Items, no_items, item, Elements, no_elements, element, El, elements_of}
use Rattle.ups_match.specs.declared.rule.Rule.{Rule}
use Rattle.ups_match.specs.declared.rule.Rule.TheVariants.{UidList, WildCards, WildCardsInText, Range, OneOfValues, WholeValue}
use Rattle.ups_match.specs.Likeness.{is_like}
use Rattle.ups_match.specs.Matching.{key_rule, value_at, any_stored_item, matches_text, all_match}
use Rattle.ups_match.specs.Moments.{moment}
use Rattle.ups_match.specs.Ranges.{span_of, spans}
use Rattle.ups_match.specs.Values.{any_value, shares_uid}

-- a stored text meets a key that has no padding at its end
abbrev pub text_met : Rule → ℤ → List ℕ → List ℕ → Bool
text_met UidList offset key stored = shares_uid key stored
text_met WildCards offset key stored = any_value (is_like key) stored
text_met WildCardsInText offset key stored = is_like key (without_padding stored)
text_met Range offset key stored = spans (span_of offset key) (moment (without_padding stored) offset false)
text_met OneOfValues offset key stored = any_value (bytes_eq key) stored
text_met WholeValue offset key stored = bytes_eq key (without_padding stored)

abbrev pub stored_text_met : Rule → ℤ → List ℕ → Option Data → Bool
stored_text_met rule offset key None = false
stored_text_met rule offset key (Some (bytes b)) = text_met rule offset key b
stored_text_met rule offset key (Some (items is)) = false

-- a data set meets each prepared key; none is universal, so there must be a stored value
abbrev mutual
  pub all_met : ℤ → Elements → Elements → Bool
  all_met offset no_elements row = true
  all_met offset (element tag vr value more) row = value_met offset tag value (value_at tag row) && all_met offset more row

  pub value_met : ℤ → Tag → Data → Option Data → Bool
  value_met offset tag (bytes b) stored = stored_text_met (key_rule tag) offset b stored
  value_met offset tag (items is) stored = items_met offset is stored

  pub items_met : ℤ → Items → Option Data → Bool
  items_met offset no_items stored = true
  items_met offset (item es more) stored = any_stored_item (all_met offset es) stored

-- a prepared key is met; None stands for a universal key, which always is
abbrev pub key_met : ℤ → Tag → Option Data → Option Data → Bool
key_met offset tag None stored = true
key_met offset tag (Some value) stored = value_met offset tag value stored

-- the prepared keys are met by exactly the data sets that match these keys
pub record Prepares (prepared keys : List El) : Type 0 where
  pub same : (offset : ℤ) (row : Elements) → all_met offset (elements_of prepared) row ≡ all_match offset (elements_of keys) row

-- the value is a prepared text, met by exactly the texts that the key matches by this rule
pub record SaysText (rule : Rule) (key : List ℕ) (value : Data) : Type 0 where
  pub text : List ℕ
  pub is : value ≡ bytes text
  pub same : (offset : ℤ) (stored : List ℕ) → text_met rule offset text stored ≡ matches_text rule offset key stored
