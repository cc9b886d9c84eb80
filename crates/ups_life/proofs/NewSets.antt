-- The attributes of a new step are a data set.
use Rattle.std.proofs.Common.{◌≡◌, ℕ, ◌+◌, ◌%◌, ◌≤◌, Bool, true, false, not, ◌==◌, List, [], ◌∷◌, ◌++◌, length, refl, ap, ◌∙◌, arith, lit<, lit≤}
use Rattle.std.specs.Prelude.{if◌then◌else◌}
use Rattle.std.proofs.lemmas.Bool.Decides.{nat_tests}
use Rattle.std.proofs.lemmas.List.{length-append}
use Rattle.ups_pdu.specs.declared.registered.RegisteredUid.TheVariants.{UpsPush}
use Rattle.ups_pdu.specs.Registered.{text_of}
use Rattle.ups_dataset.specs.declared.tag.Tag.{Tag}
use Rattle.ups_dataset.specs.declared.dictionary.TheConstants.{SOP_CLASS_UID, SOP_INSTANCE_UID, TRANSACTION_UID}
use Rattle.ups_dataset.specs.Limits.{max_short_length}
use Rattle.ups_dataset.specs.declared.vr.Vr.TheVariants.{Ui, Sq}
use Rattle.ups_dataset.specs.Data.{bytes, El, put}
use Rattle.ups_dataset.specs.Tag.{is_tag, is_mark, is_group_length}
use Rattle.ups_dataset.specs.Valid.{IsDataSet, IsElement}
use Rattle.ups_dataset.proofs.Places.{filtered, put_set}
use Rattle.ups_life.specs.Values.{uid_value}
use Rattle.ups_life.specs.Instances.{IsStepUid}
use Rattle.ups_life.specs.Steps.{sop_class_element, instance_element, without_transaction, new_row}

ui_is_no_sequence : Ui ≡ Sq → ⊥
ui_is_no_sequence e = absurd cc

odd_and_one : (n : ℕ) → ((n % 2) == 0) ≡ false → ((n + 1) % 2) ≡ 0
odd_and_one n e = grind (arith, nat_tests)

uid_even : (even : Bool) (text : List ℕ) → ((length text % 2) == 0) ≡ even → (length (if even then text else text ++ 0 ∷ []) % 2) ≡ 0
uid_even true text e = grind (arith, nat_tests)
uid_even false text e = ap (λ n. n % 2) (length-append text (0 ∷ [])) ∙ odd_and_one (length text) e

uid_short : (even : Bool) (text : List ℕ) → length text ≤ 64 → length (if even then text else text ++ 0 ∷ []) ≤ max_short_length
uid_short true text h = omega (arith, h)
uid_short false text h = omega (arith, h, length-append text (0 ∷ []))

-- the element of a UID may stand in a data set
uid_element : (tag : Tag) (text : List ℕ) → length text ≤ 64 → is_mark tag ≡ false → is_group_length tag ≡ false → IsElement (record { tag = tag; vr = Ui; value = bytes (uid_value text) })
uid_element tag text short no_mark no_group_length = record {
  no_mark = no_mark;
  no_group_length = no_group_length;
  value = (ui_is_no_sequence, uid_even ((length text % 2) == 0) text refl, λ _. uid_short ((length text % 2) == 0) text short);
}

pub new_set : (step : List ℕ) (set : List El) → IsStepUid step → IsDataSet set → IsDataSet (new_row step set)
new_set step set is h =
    put_set sop_class_element 0 (put (instance_element step) (without_transaction set)) (omega arith) (record { group = lit< tt; element = lit< tt }) (uid_element SOP_CLASS_UID (text_of UpsPush) (lit≤ tt) refl refl) tt
    (put_set (instance_element step) 0 (without_transaction set) (omega arith) (record { group = lit< tt; element = lit< tt }) (uid_element SOP_INSTANCE_UID step is.is_uid.short refl refl) tt
    (filtered (λ e. not (is_tag e.tag TRANSACTION_UID)) 0 set h))
