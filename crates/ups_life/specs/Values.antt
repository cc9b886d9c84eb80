-- The texts of the values of attributes, and how they are checked.
use Rattle.std.specs.Prelude.{ℕ, pos, ◌%◌, ◌==◌, Bool, true, false, not, List, [], ◌∷◌, ◌++◌, length, Option, None, Some, is_some, codes, if◌then◌else◌}
use Rattle.std.specs.List.{list_all, list_any}
use Rattle.std.specs.Str.{bytes_eq}
use Rattle.ups_pdu.specs.Padding.{without_padding}
use Rattle.ups_dataset.specs.declared.tag.Tag.{Tag}
use Rattle.ups_dataset.specs.Tag.{is_tag}
use Rattle.ups_dataset.specs.Data.{Data, bytes, items, no_items, item, Elements, no_elements, element, El, element_at}
use Rattle.ups_match.specs.Moments.{moment}
use Rattle.ups_cycle.specs.declared.status.Status.{Status}
use Rattle.ups_cycle.specs.declared.status.Status.TheVariants.{Success, InvalidAttributeValue, MissingAttribute, MissingAttributeValue}
use Rattle.ups_life.specs.declared.checks.ValueRule.{ValueRule}
use Rattle.ups_life.specs.declared.checks.ValueRule.TheVariants.{AnyText, DateTime, Readiness, Priority}
use Rattle.ups_life.specs.declared.checks.Checked.{Checked}

-- a text as a value of even length (PS3.5 section 6.2): one of odd length is padded, a UID with a NUL, any other text
-- with a space
abbrev pub padded : ℕ → List ℕ → List ℕ
padded pad text = if (length text % 2) == 0 then text else text ++ pad ∷ []

abbrev pub uid_value : List ℕ → List ℕ
uid_value uid = padded 0 uid

abbrev pub text_value : List ℕ → List ℕ
text_value text = padded 32 text

-- the Input Readiness States, and the priorities (PS3.3 C.30.2)
abbrev pub READINESS_STATES : List (List ℕ)
READINESS_STATES = codes "INCOMPLETE" ∷ codes "UNAVAILABLE" ∷ codes "READY" ∷ []

abbrev pub PRIORITIES : List (List ℕ)
PRIORITIES = codes "HIGH" ∷ codes "MEDIUM" ∷ codes "LOW" ∷ []

-- the texts that an attribute may have (PS3.3 C.30.2); whether a text is a DT (PS3.5 section 6.2) does not depend on the
-- offset
abbrev pub allows : ValueRule → List ℕ → Bool
allows AnyText text = true
allows DateTime text = is_some (moment text (pos 0) false)
allows Readiness text = list_any (bytes_eq text) READINESS_STATES
allows Priority text = list_any (bytes_eq text) PRIORITIES

abbrev pub text_status : ValueRule → List ℕ → Status
text_status rule [] = MissingAttributeValue
text_status rule (b ∷ bs) = if allows rule (b ∷ bs) then Success else InvalidAttributeValue

-- the status of a value, apart from its padding; a sequence in the place of a value is invalid
abbrev pub value_status : ValueRule → Data → Status
value_status rule (bytes b) = text_status rule (without_padding b)
value_status rule (items is) = InvalidAttributeValue

abbrev pub element_status : ValueRule → Option El → Status
element_status rule None = MissingAttribute
element_status rule (Some e) = value_status rule e.value

abbrev pub attribute_status : Checked → List El → Status
attribute_status checked set = element_status checked.rule (element_at checked.tag set)

-- the first status, if it isn't Success; otherwise the second
abbrev pub unless_fault : Status → Status → Status
unless_fault Success later = later
unless_fault fault later = fault

-- the first fault of the attributes of a table, in its order
abbrev pub first_fault : List Checked → List El → Status
first_fault [] set = Success
first_fault (c ∷ cs) set = unless_fault (attribute_status c set) (first_fault cs set)

-- the status of an attribute that may be absent
abbrev pub given_status : ValueRule → Option El → Status
given_status rule None = Success
given_status rule (Some e) = value_status rule e.value

-- the first fault of the attributes of a table that are given, in its order
abbrev pub first_given_fault : List Checked → List El → Status
first_given_fault [] set = Success
first_given_fault (c ∷ cs) set = unless_fault (given_status c.rule (element_at c.tag set)) (first_given_fault cs set)

-- the value has only padding
abbrev pub is_blank_value : Data → Bool
is_blank_value (bytes b) = bytes_eq (without_padding b) []
is_blank_value (items is) = false

-- the attribute is absent, or has only padding
abbrev pub is_blank : Option El → Bool
is_blank None = true
is_blank (Some e) = is_blank_value e.value

-- the value is this text, apart from padding
abbrev pub is_text : List ℕ → Data → Bool
is_text text (bytes b) = bytes_eq (without_padding b) text
is_text text (items is) = false

-- the attribute is present, and its text is this
abbrev pub says : List ℕ → Option El → Bool
says text None = false
says text (Some e) = is_text text e.value

-- the value is a text that is not empty
abbrev pub has_text : Data → Bool
has_text (bytes b) = not (bytes_eq (without_padding b) [])
has_text (items is) = false

-- the attribute is present, with a text that is not empty
abbrev pub is_said : Option El → Bool
is_said None = false
is_said (Some e) = has_text e.value

-- the same for an attribute of an item
abbrev pub is_said_in : Elements → Tag → Bool
is_said_in no_elements tag = false
is_said_in (element t vr d more) tag = if is_tag t tag then has_text d else is_said_in more tag

-- the value is a sequence of exactly one item, with a text that is not empty for each of these tags
abbrev pub one_item_says : List Tag → Data → Bool
one_item_says tags (items (item es no_items)) = list_all (is_said_in es) tags
one_item_says tags d = false

abbrev pub has_item_with : List Tag → Option El → Bool
has_item_with tags None = false
has_item_with tags (Some e) = one_item_says tags e.value
