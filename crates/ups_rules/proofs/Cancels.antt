-- How deep it nests what a request gives.
use Rattle.std.proofs.Common.{◌≡◌, ℕ, ◌<◌, ◌≤◌, ◌+◌, ℤ, Bool, true, false, not, ◌&&◌, ◌||◌, List, [], ◌∷◌, map, filter, refl, sym, ap, ◌∙◌, arith}
use Rattle.std.specs.Prelude.{max, nat_lt, nat_le, if◌then◌else◌}
use Rattle.std.specs.List.{list_any, AllByRecursion}
use Rattle.std.proofs.lemmas.Bool.Decides.{nat_tests}
use Rattle.ups_dataset.specs.Limits.{max_depth}
use Rattle.ups_dataset.specs.declared.dictionary.TheConstants.{TRANSACTION_UID, PROCEDURE_STEP_CANCELLATION_DATE_TIME, PROCEDURE_STEP_DISCONTINUATION_REASON_CODE_SEQUENCE, REASON_FOR_CANCELLATION}
use Rattle.ups_dataset.specs.declared.set.Element.{Element}
use Rattle.ups_dataset.specs.declared.tag.Tag.{Tag}
use Rattle.ups_dataset.specs.declared.vr.Vr.{Vr}
use Rattle.ups_dataset.specs.declared.vr.Vr.TheVariants.{Dt}
use Rattle.ups_dataset.specs.Data.{Data, bytes, items, El, elements_of, put, is_listed}
use Rattle.ups_dataset.specs.Tag.{number, is_tag}
use Rattle.ups_dataset.specs.Valid.{IsValue, IsElement, AreElements, IsDataSet, depth_data, depth_elements}
use Rattle.ups_dataset.specs.View.{element_view}
use Rattle.ups_dataset.proofs.Places.{filtered}
use Rattle.ups_match.specs.Moments.{stamp}
use Rattle.ups_life.specs.declared.change_fault.ChangeFault.TheVariants.{TooDeep}
use Rattle.ups_cycle.specs.declared.state.StepState.TheVariants.{Scheduled}
use Rattle.ups_life.specs.Values.{text_value}
use Rattle.ups_life.specs.Instances.{IsStepUid}
use Rattle.ups_life.specs.Steps.{REASONS, cancellation, progress_element, cancel_gives, new_row, without_transaction}
use Rattle.ups_life.specs.Deep.{IsShallow, ChangeFails, nest_too_deep, is_deep_reason}
use Rattle.ups_life.proofs.NewSets.{new_set}
use Rattle.ups_life.proofs.Tags.{same_tags}

-- DATA SETS

depth_within : (vr : Vr) (d : Data) → IsValue vr d → depth_data d ≤ max_depth
depth_within vr (bytes b) h = omega arith
depth_within vr (items is) (_, h) = h

within : (low : ℕ) (es : List El) → AreElements low (elements_of es) → depth_elements (elements_of es) ≤ max_depth
within low [] h = omega arith
within low (e ∷ es) (_, _, is, _, later) = omega (arith, depth_within e.vr e.value is.value, within (number e.tag + 1) es later)

pub new_shallow : (step : List ℕ) (set : List El) → IsStepUid step → IsDataSet set → IsShallow (new_row step set)
new_shallow step set is good = within 0 (new_row step set) (new_set step set is good)

pub set_shallow : (set : List El) → IsDataSet set → IsShallow (without_transaction set)
set_shallow set good = within 0 (without_transaction set) (filtered (λ e. not (is_tag e.tag TRANSACTION_UID)) 0 set good)

-- THE REASONS OF A CANCEL REQUEST

abbrev reasons_in : List El → List El
reasons_in set = filter (λ e. is_listed e.tag REASONS) set

no_moment : (t : Tag) (code reason : Bool) → is_tag PROCEDURE_STEP_DISCONTINUATION_REASON_CODE_SEQUENCE t ≡ code → is_tag REASON_FOR_CANCELLATION t ≡ reason → code || (reason || false) ≡ true → is_tag t PROCEDURE_STEP_CANCELLATION_DATE_TIME ≡ false
no_moment t true reason c r e = sym (same_tags PROCEDURE_STEP_DISCONTINUATION_REASON_CODE_SEQUENCE t PROCEDURE_STEP_CANCELLATION_DATE_TIME c)
no_moment t false true c r e = sym (same_tags REASON_FOR_CANCELLATION t PROCEDURE_STEP_CANCELLATION_DATE_TIME r)
no_moment t false false c r e = absurd cc

-- a reason is not the moment of the cancellation
others : (set : List El) → AllByRecursion (λ e. is_tag e.tag PROCEDURE_STEP_CANCELLATION_DATE_TIME ≡ false) (reasons_in set)
others [] = tt
others (x ∷ xs) = step (is_listed x.tag REASONS) refl (others xs)
  where
    step : (b : Bool) → is_listed x.tag REASONS ≡ b → AllByRecursion (λ e. is_tag e.tag PROCEDURE_STEP_CANCELLATION_DATE_TIME ≡ false) (reasons_in xs)
        → AllByRecursion (λ e. is_tag e.tag PROCEDURE_STEP_CANCELLATION_DATE_TIME ≡ false) (if b then x ∷ reasons_in xs else reasons_in xs)
    step true e more = (no_moment x.tag (is_tag PROCEDURE_STEP_DISCONTINUATION_REASON_CODE_SEQUENCE x.tag) (is_tag REASON_FOR_CANCELLATION x.tag) refl refl e, more)
    step false e more = more

depth_put : (x : El) (ys : List El) → depth_data x.value ≡ 0 → AllByRecursion (λ y. is_tag y.tag x.tag ≡ false) ys → depth_elements (elements_of (put x ys)) ≡ depth_elements (elements_of ys)
depth_put x [] flat h = omega (arith, flat)
depth_put x (y ∷ ys) flat (other, more) = step (is_tag y.tag x.tag) (nat_lt (number x.tag) (number y.tag)) other (depth_put x ys flat more)
  where
    step : (same below : Bool) → same ≡ false → depth_elements (elements_of (put x ys)) ≡ depth_elements (elements_of ys)
        → depth_elements (elements_of (if same then x ∷ ys else (if below then x ∷ y ∷ ys else y ∷ put x ys))) ≡ max (depth_data y.value) (depth_elements (elements_of ys))
    step true below e same = absurd cc
    step false true e same = omega (arith, flat)
    step false false e same = ap (λ n. max (depth_data y.value) n) same

cancellation_depth : (offset : ℤ) (moment : ℕ) (reasons : List El) → depth_elements (elements_of (cancellation offset moment reasons)) ≡ depth_elements (elements_of (reasons_in reasons))
unfolding cancellation
cancellation_depth offset moment reasons = depth_put (record { tag = PROCEDURE_STEP_CANCELLATION_DATE_TIME; vr = Dt; value = bytes (text_value (stamp moment offset)) }) (reasons_in reasons) refl (others reasons)

-- what a cancel request gives nests one deeper than its reasons
gives_depth : (offset : ℤ) (moment : ℕ) (reasons : List El) → depth_elements (elements_of (cancel_gives Scheduled offset moment reasons)) ≡ depth_elements (elements_of (reasons_in reasons)) + 1
gives_depth offset moment reasons = one_more (depth_elements (elements_of (cancellation offset moment reasons))) (depth_elements (elements_of (reasons_in reasons))) (cancellation_depth offset moment reasons)
  where
    one_more : (m n : ℕ) → m ≡ n → max 0 (max (max (m + 1) 0) 0) ≡ n + 1
    one_more m n e = omega (arith, e)

pub too_deep : (offset : ℤ) (moment : ℕ) (reasons : List El) → nest_too_deep reasons ≡ true → ChangeFails (cancel_gives Scheduled offset moment reasons) TooDeep
too_deep offset moment reasons e = above _ _ e (gives_depth offset moment reasons)
  where
    above : (m n : ℕ) → nat_lt max_depth (m + 1) ≡ true → n ≡ m + 1 → max_depth < n
    above m n e is = grind (arith, nat_tests)

pub not_too_deep : (offset : ℤ) (moment : ℕ) (reasons : List El) → nest_too_deep reasons ≡ false → IsShallow (cancel_gives Scheduled offset moment reasons)
not_too_deep offset moment reasons e = below _ _ e (gives_depth offset moment reasons)
  where
    below : (m n : ℕ) → nat_lt max_depth (m + 1) ≡ false → n ≡ m + 1 → n ≤ max_depth
    below m n e is = grind (arith, nat_tests)

pub good : (offset : ℤ) (moment : ℕ) (reasons : List El) → nest_too_deep reasons ≡ false → IsElement (progress_element offset moment reasons)
good offset moment reasons e = record { no_mark = refl; no_group_length = refl; value = (refl, below _ _ e (not_too_deep offset moment reasons e)) }
  where
    below : (m n : ℕ) → nat_lt max_depth (m + 1) ≡ false → max 0 (max n 0) ≤ max_depth → n ≤ max_depth
    below m n e h = omega (arith, h)

deeper : (d n : ℕ) (here more whole : Bool) → nat_le max_depth d ≡ here → nat_lt max_depth (n + 1) ≡ more → nat_lt max_depth (max d n + 1) ≡ whole → here || more ≡ whole
deeper d n true more true h m w = refl
deeper d n true more false h m w = absurd (grind (arith, nat_tests))
deeper d n false true true h m w = refl
deeper d n false true false h m w = absurd (grind (arith, nat_tests))
deeper d n false false true h m w = absurd (grind (arith, nat_tests))
deeper d n false false false h m w = refl

-- the reasons nest too deep where one of them does
pub any_deep : {A : Type 0} (es : List (Element A)) (set : List El) → map element_view es ≡ set → list_any (λ e. is_deep_reason (element_view e)) es ≡ nest_too_deep set
any_deep {A} es set is = any es ∙ ap nest_too_deep is
  where
    step : (x : El) (xs : List El) (b : Bool) → (b && nat_le max_depth (depth_data x.value)) || nest_too_deep xs ≡ nat_lt max_depth (depth_elements (elements_of (if b then x ∷ reasons_in xs else reasons_in xs)) + 1)
    step x xs true = deeper (depth_data x.value) (depth_elements (elements_of (reasons_in xs))) _ _ _ refl refl refl
    step x xs false = refl

    any : (es : List (Element A)) → list_any (λ e. is_deep_reason (element_view e)) es ≡ nest_too_deep (map element_view es)
    any [] = refl
    any (e ∷ es) = ap (λ more. is_deep_reason (element_view e) || more) (any es) ∙ step (element_view e) (map element_view es) (is_listed e.tag REASONS)
