-- The values of attributes, and which of them a text key matches (PS3.4 section C.2.2.2).
use Rattle.std.specs.Prelude.{ℕ, Bool, ◌||◌, ◌==◌, List, [], ◌∷◌}
use Rattle.std.specs.List.{list_any, slice_split}
use Rattle.std.specs.Str.{bytes_eq}
use Rattle.ups_pdu.specs.Padding.{is_nil, without_padding}
use Rattle.ups_dataset.specs.declared.tag.Tag.{Tag}
use Rattle.ups_dataset.specs.declared.dictionary.TheConstants.{SPECIFIC_CHARACTER_SET, TRANSACTION_UID}
use Rattle.ups_dataset.specs.Tag.{is_tag}
use Rattle.ups_dataset.specs.declared.vr.Vr.{Vr}
use Rattle.ups_dataset.specs.declared.vr.Vr.TheVariants.{Ae, As, Cs, Da, Ds, Dt, Is, Lo, Lt, Pn, Sh, Sq, St, Tm, Ui, Uc, Un, Ut}
use Rattle.ups_match.specs.declared.rule.Rule.{Rule}
use Rattle.ups_match.specs.declared.rule.Rule.TheVariants.{UidList, WildCards, WildCardsInText, Range, OneOfValues, WholeValue}

-- the backslash separates the values of an attribute (PS3.5 section 6.4)
abbrev pub is_backslash : ℕ → Bool
is_backslash byte = byte == 92

-- some value of a text, without the padding at its end, passes a test
abbrev pub any_value : (List ℕ → Bool) → List ℕ → Bool
any_value test text = list_any (λ value. test (without_padding value)) (slice_split is_backslash text)

-- The rule by which a key with a value representation is matched (PS3.4 sections C.2.2.2.1 to C.2.2.2.6): a list of
-- UIDs; wild cards for a text, where LT, ST and UT have only one value (PS3.5 section 6.2); a range; or equality, with
-- one of the values if the representation may have many, otherwise with the whole.
abbrev pub rule_of : Vr → Rule
rule_of Ui = UidList
rule_of Ae = WildCards
rule_of Cs = WildCards
rule_of Lo = WildCards
rule_of Pn = WildCards
rule_of Sh = WildCards
rule_of Uc = WildCards
rule_of Lt = WildCardsInText
rule_of St = WildCardsInText
rule_of Ut = WildCardsInText
rule_of Dt = Range
rule_of As = OneOfValues
rule_of Da = OneOfValues
rule_of Ds = OneOfValues
rule_of Is = OneOfValues
rule_of Tm = OneOfValues
rule_of vr = WholeValue

-- the value representation of a key that is not a sequence: that of its tag, or UN if that is SQ
abbrev pub text_vr : Vr → Vr
text_vr Sq = Un
text_vr vr = vr

-- a text of zero length, or * alone, apart from padding (PS3.4 section C.2.2.2.3)
abbrev pub is_universal_text : List ℕ → Bool
is_universal_text text = is_nil (without_padding text) || bytes_eq (without_padding text) (42 ∷ [])

-- These two attributes are no keys: one says how the other texts are encoded (PS3.4 section C.2.2.2), the other is a
-- UID that is not disclosed (PS3.4 section CC.2.7).
abbrev pub is_no_key : Tag → Bool
is_no_key tag = is_tag tag SPECIFIC_CHARACTER_SET || is_tag tag TRANSACTION_UID

-- one UID of a list equals one of the stored UIDs (PS3.4 section C.2.2.2.2)
abbrev pub shares_uid : List ℕ → List ℕ → Bool
shares_uid key stored = any_value (λ uid. any_value (bytes_eq uid) stored) key
