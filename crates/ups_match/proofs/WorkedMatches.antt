-- Worked rows: what the definitions say of some keys and values, computed by the check.
use Rattle.std.proofs.Common.{◌≡◌, refl, true, false, [], ◌∷◌, ◌++◌, List, ℕ}
use Rattle.std.specs.Prelude.{Some, None, codes, pos}
use Rattle.ups_dataset.specs.Data.{El, bytes, items, items_of}
use Rattle.ups_dataset.specs.Dictionary.{vr_of}
use Rattle.ups_dataset.specs.declared.dictionary.TheConstants.{CODE_VALUE, SCHEDULED_STATION_NAME_CODE_SEQUENCE, SCHEDULED_PROCEDURE_STEP_START_DATE_TIME, WORKLIST_LABEL}
use Rattle.ups_dataset.specs.declared.vr.Vr.TheVariants.{Dt, Lo, Sh, Sq}
use Rattle.ups_match.specs.declared.fault.KeyFault.TheVariants.{BadRange, TwoItems}
use Rattle.ups_match.specs.Likeness.{IsLike, is_like}
use Rattle.ups_match.specs.Matching.{fault_of, matches}
use Rattle.ups_match.specs.Moments.{moment, day_number, days_of_month, field, is_date, is_time, date_number, second_of_day, microsecond_of, offset_of, signed_offset}
use Rattle.ups_match.specs.Ranges.{first_len, span_of}
use Rattle.ups_match.specs.Values.{any_value, shares_uid, is_universal_text}
use Rattle.ups_match.proofs.PatternRuns.{decided}

a_pattern : is_like (codes "RE?D*") (codes "READS") ≡ true
a_pattern = refl

another_text : is_like (codes "RE?D*") (codes "REPROC") ≡ false
another_text = refl

a_star_alone : is_like (codes "*") [] ≡ true
a_star_alone = refl

a_question_mark_alone : is_like (codes "?") [] ≡ false
a_question_mark_alone = refl

stars_around : IsLike (codes "*AB*AB") (codes "ABXAB")
stars_around = (decided (codes "*AB*AB") (codes "ABXAB")).0 refl

a_listed_uid : shares_uid (codes "1.2.3" ++ 92 ∷ codes "1.2.9") (codes "1.2.9" ++ 0 ∷ []) ≡ true
a_listed_uid = refl

a_stored_value_of_two : any_value (is_like (codes "B*")) (codes "A" ++ 92 ∷ codes "BC ") ≡ true
a_stored_value_of_two = refl

padding_alone : is_universal_text (codes "  ") ≡ true
padding_alone = refl

an_offset_before_a_range : first_len (codes "20240229120000-0100-2025") ≡ 19
unfolding offset_of signed_offset
an_offset_before_a_range = refl

a_year_behind_the_hyphen : first_len (codes "20240229120000-2024") ≡ 14
unfolding offset_of signed_offset
a_year_behind_the_hyphen = refl

from_a_year_on : span_of (pos 0) (codes "2024-") ≡ Some (record { least = Some (pos 1704067200000000); greatest = None })
unfolding moment day_number days_of_month field is_date is_time date_number second_of_day microsecond_of offset_of signed_offset
from_a_year_on = refl

up_to_a_year : span_of (pos 0) (codes "-2024") ≡ Some (record { least = None; greatest = Some (pos 1735689599999999) })
unfolding moment day_number days_of_month field is_date is_time date_number second_of_day microsecond_of offset_of signed_offset
up_to_a_year = refl

a_hyphen_alone : span_of (pos 0) (codes "-") ≡ None
unfolding offset_of signed_offset
a_hyphen_alone = refl

-- a label, a start, and a sequence of codes
abbrev label : List ℕ → El
label text = record { tag = WORKLIST_LABEL; vr = Lo; value = bytes text }

abbrev start : List ℕ → El
start text = record { tag = SCHEDULED_PROCEDURE_STEP_START_DATE_TIME; vr = Dt; value = bytes text }

abbrev code : List ℕ → List El
code text = record { tag = CODE_VALUE; vr = Sh; value = bytes text } ∷ []

abbrev stations : List (List El) → El
stations sets = record { tag = SCHEDULED_STATION_NAME_CODE_SEQUENCE; vr = Sq; value = items (items_of sets) }

an_empty_key : matches (pos 0) (label [] ∷ []) [] ≡ true
unfolding matches vr_of
an_empty_key = refl

what_is_absent : matches (pos 0) (label (codes "A") ∷ []) [] ≡ false
unfolding matches vr_of
what_is_absent = refl

a_label : matches (pos 0) (label (codes "RE?D*") ∷ []) (label (codes "READS ") ∷ []) ≡ true
unfolding matches vr_of
a_label = refl

a_station_of_two : matches (pos 0) (stations (code (codes "M*") ∷ []) ∷ []) (stations (code (codes "CT1 ") ∷ code (codes "MR1 ") ∷ []) ∷ []) ≡ true
unfolding matches vr_of
a_station_of_two = refl

items_against_bytes : matches (pos 0) (stations (code (codes "M*") ∷ []) ∷ []) (label (codes "MR1 ") ∷ []) ≡ false
unfolding matches vr_of
items_against_bytes = refl

two_items : fault_of (pos 0) (stations (code (codes "A ") ∷ code (codes "B ") ∷ []) ∷ []) ≡ Some TwoItems
unfolding fault_of vr_of
two_items = refl

the_first_fault : fault_of (pos 0) (start (codes "- ") ∷ stations (code [] ∷ code [] ∷ []) ∷ []) ≡ Some BadRange
unfolding fault_of vr_of offset_of signed_offset
the_first_fault = refl
