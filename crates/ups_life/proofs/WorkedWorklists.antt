-- Worked rows: which steps are found by which keys, and what is told of them, computed by the check.
use Rattle.std.proofs.Common.{◌≡◌, ℕ, List, [], ◌∷◌, ◌++◌, refl}
use Rattle.std.specs.Prelude.{None, Err, codes, pos}
use Rattle.ups_dataset.specs.declared.tag.Tag.{Tag}
use Rattle.ups_dataset.specs.declared.vr.Vr.{Vr}
use Rattle.ups_dataset.specs.declared.vr.Vr.TheVariants.{Dt, Lo, Sq, Ui}
use Rattle.ups_dataset.specs.declared.dictionary.TheConstants.{SOP_INSTANCE_UID, TRANSACTION_UID, SCHEDULED_PROCEDURE_STEP_START_DATE_TIME, OUTPUT_INFORMATION_SEQUENCE, WORKLIST_LABEL}
use Rattle.ups_dataset.specs.Data.{El, bytes, items, no_items}
use Rattle.ups_dataset.specs.Dictionary.{vr_of}
use Rattle.ups_dimse.specs.declared.command.Operation.TheVariants as operations
use Rattle.ups_match.specs.Matching.{fault_of, matches}
use Rattle.ups_match.specs.Moments.{moment, day_number, days_of_month, field, is_date, is_time, date_number, second_of_day, microsecond_of, offset_of, signed_offset}
use Rattle.ups_life.specs.declared.entry.Entry.{Entry}
use Rattle.ups_life.specs.declared.request.Request.TheVariants.{Create}
use Rattle.ups_cycle.specs.declared.status.Status.TheVariants.{IdentifierMismatch}
use Rattle.ups_life.specs.Settings.{Settings}
use Rattle.ups_life.specs.Asking.{asked}
use Rattle.ups_life.specs.Worklist.{worklist}

abbrev site : Settings
site = record { peers = []; keep = 60; offset = pos 0; limit = 1000000 }

abbrev says : Tag → Vr → List ℕ → El
says tag vr text = record { tag = tag; vr = vr; value = bytes text }

abbrev uid : List ℕ → El
uid text = says SOP_INSTANCE_UID Ui text

abbrev start : List ℕ → El
start text = says SCHEDULED_PROCEDURE_STEP_START_DATE_TIME Dt text

abbrev label : List ℕ → El
label text = says WORKLIST_LABEL Lo text

abbrev created : List ℕ → List El → Entry (Unit {0})
created step attributes = record { caller = 0; ae = codes "SCHED1"; moment = 120; request = Create step attributes }

-- two steps, the newest first
abbrev two_steps : List (Entry (Unit {0}))
two_steps = created (codes "1.2.3.2") (start (codes "20240301") ∷ label (codes "REPROC") ∷ []) ∷ created (codes "1.2.3.1") (start (codes "20240229120000") ∷ label (codes "READS ") ∷ []) ∷ []

-- what is found of two steps by these keys
abbrev found_by : List El → List (List El)
found_by keys = worklist site two_steps (record { attributes = keys; offset = pos 0 })

one_label_matches : found_by (uid [] ∷ label (codes "RE?D* ") ∷ []) ≡ (uid (codes "1.2.3.1" ++ 0 ∷ []) ∷ label (codes "READS ") ∷ []) ∷ []
unfolding matches vr_of
one_label_matches = refl

both_are_found_in_order_of_creation : found_by (start (codes "20240229- ") ∷ []) ≡ (start (codes "20240229120000") ∷ []) ∷ (start (codes "20240301") ∷ []) ∷ []
unfolding matches vr_of moment day_number days_of_month field is_date is_time date_number second_of_day microsecond_of offset_of signed_offset
both_are_found_in_order_of_creation = refl

abbrev no_output : El
no_output = record { tag = OUTPUT_INFORMATION_SEQUENCE; vr = Sq; value = items no_items }

what_is_not_there_has_no_value : found_by (uid (codes "1.2.3.2") ∷ says TRANSACTION_UID Ui [] ∷ no_output ∷ []) ≡ (uid (codes "1.2.3.2" ++ 0 ∷ []) ∷ says TRANSACTION_UID Ui [] ∷ no_output ∷ []) ∷ []
unfolding matches vr_of
what_is_not_there_has_no_value = refl

unreadable_keys_are_refused : asked {A = Unit {0}} (pos 0) (operations.Find None) (start (codes "- ") ∷ []) ≡ Err IdentifierMismatch
unfolding fault_of vr_of offset_of signed_offset
unreadable_keys_are_refused = refl
