-- The row of each step held tells its state, and which step it is.
use Rattle.std.proofs.Common.{◌≡◌, ℕ, ◌%◌, ℤ, Bool, true, false, not, ◌&&◌, ◌||◌, ◌==◌, cond, List, [], ◌∷◌, ◌++◌, filter, length, Option, None, Some, refl, sym, ap, ◌∙◌}
use Rattle.std.specs.Prelude.{if◌then◌else◌, is_some}
use Rattle.std.specs.List.{list_any}
use Rattle.std.specs.Str.{bytes_eq}
use Rattle.ups_pdu.specs.declared.registered.RegisteredUid.TheVariants.{UpsPush}
use Rattle.ups_pdu.specs.Registered.{text_of}
use Rattle.ups_pdu.specs.Padding.{is_padding, is_nil, without_padding}
use Rattle.ups_pdu.proofs.UidText.{spells_itself}
use Rattle.ups_dataset.specs.declared.tag.Tag.{Tag}
use Rattle.ups_dataset.specs.declared.dictionary.TheConstants.{SOP_CLASS_UID, SOP_INSTANCE_UID, TRANSACTION_UID, PROCEDURE_STEP_STATE, INPUT_READINESS_STATE}
use Rattle.ups_dataset.specs.Data.{Data, bytes, items, El, element_at, put, laid_over, first_of_two}
use Rattle.ups_dataset.specs.Tag.{is_tag}
use Rattle.ups_dataset.specs.Valid.{IsDataSet}
use Rattle.ups_dataset.proofs.Laying.{element_at-put, element_at-laid_over}
use Rattle.ups_dataset.proofs.Places.{filtered}
use Rattle.ups_life.specs.declared.request.Request.{Request}
use Rattle.ups_life.specs.declared.request.Request.TheVariants.{Create, Change, AskCancel, Set, Sweep}
use Rattle.ups_cycle.specs.declared.state.StepState.{StepState}
use Rattle.ups_cycle.specs.declared.state.StepState.TheVariants.{Scheduled, InProgress, Completed, Canceled}
use Rattle.ups_life.specs.declared.entry.Entry.{Entry}
use Rattle.ups_cycle.specs.declared.status.Status.{Status}
use Rattle.ups_cycle.specs.declared.status.Status.TheVariants.{Success, DuplicateSopInstance, NotScheduled, InvalidAttributeValue}
use Rattle.ups_life.specs.declared.checks.ValueRule.TheVariants.{Readiness}
use Rattle.ups_life.specs.Settings.{Settings}
use Rattle.ups_cycle.specs.States.{state_text}
use Rattle.ups_life.specs.Values.{READINESS_STATES, says, is_text, is_blank, allows, text_status, value_status, element_status, given_status, unless_fault, first_fault, first_given_fault}
use Rattle.ups_life.specs.CheckedAttributes.{checked_attributes}
use Rattle.ups_life.specs.Instances.{IsStepUid}
use Rattle.ups_life.specs.Verdict.{create_status, update_status, gives_fixed, set_attributes_status}
use Rattle.ups_life.specs.Steps.{is_on, used, state, state_then, sop_class_element, instance_element, without_transaction, new_row, state_element, progress_element, given, row, row_of}
use Rattle.ups_life.specs.Watching.{is_due, held, held_after, is_held}
use Rattle.ups_life.specs.History.{legal}
use Rattle.ups_life.specs.Telling.{says_one_of, TellsStep, IsWellFormed, AreWellFormed}
use Rattle.ups_life.proofs.Accepted.{said, succeeded, legal_tail, was_held, on_held, neither}
use Rattle.ups_life.proofs.HeldOnce.{not_among_more}
use Rattle.ups_life.proofs.NewSets.{new_set}
use Rattle.ups_life.proofs.Tags.{same_tags}

-- ATTRIBUTES THAT ARE LEFT AS THEY ARE

without_step : (t : Tag) (x : El) (rest : List El) (after : Option El) (left_out here : Bool) → is_tag x.tag t ≡ here → (here ≡ true → left_out ≡ false) → element_at t rest ≡ after
    → element_at t (if not left_out then x ∷ rest else rest) ≡ (if here then Some x else after)
without_step t x rest after true true e stays same = let c : true ≡ false = stays refl in absurd cc
without_step t x rest after true false e stays same = same
without_step t x rest after false true e stays same = ap (λ b. if b then Some x else element_at t rest) e
without_step t x rest after false false e stays same = ap (λ b. if b then Some x else element_at t rest) e ∙ same

-- the other attributes of a set without its Transaction UID
without_at : (t : Tag) (set : List El) → is_tag t TRANSACTION_UID ≡ false → element_at t (without_transaction set) ≡ element_at t set
without_at t [] other = refl
without_at t (x ∷ xs) other =
    without_step t x (without_transaction xs) (element_at t xs) (is_tag x.tag TRANSACTION_UID) (is_tag x.tag t) refl (λ e. same_tags x.tag t TRANSACTION_UID e ∙ other) (without_at t xs other)

-- what an upper set says, it says over any other
says_over : (text : List ℕ) (upper below : Option El) → says text upper ≡ true → says text (first_of_two upper below) ≡ true
says_over text None below h = absurd cc
says_over text (Some e) below h = h

says_one_over : (upper below : Option El) → says_one_of READINESS_STATES upper ≡ true → says_one_of READINESS_STATES (first_of_two upper below) ≡ true
says_one_over None below h = absurd cc
says_one_over (Some e) below h = h

-- WHAT IS CHECKED

no_fault : (first later : Status) → unless_fault first later ≡ Success → (first ≡ Success) × (later ≡ Success)
no_fault Success later e = (refl, e)
no_fault fault later e = absurd cc

allowed : (ok : Bool) → (if ok then Success else InvalidAttributeValue) ≡ Success → ok ≡ true
allowed true e = refl
allowed false e = absurd cc

ready_text : (text : List ℕ) → text_status Readiness text ≡ Success → list_any (λ ready. bytes_eq text ready) READINESS_STATES ≡ true
ready_text [] e = absurd cc
ready_text (b ∷ bs) e = allowed (allows Readiness (b ∷ bs)) e

ready_value : (d : Data) → value_status Readiness d ≡ Success → list_any (λ ready. is_text ready d) READINESS_STATES ≡ true
ready_value (bytes b) e = ready_text (without_padding b) e
ready_value (items is) e = absurd cc

-- an attribute that has to be there
ready_element : (o : Option El) → element_status Readiness o ≡ Success → says_one_of READINESS_STATES o ≡ true
ready_element None e = absurd cc
ready_element (Some x) e = ready_value x.value e

-- an attribute that is given anew, or not
ready_given : (o below : Option El) → given_status Readiness o ≡ Success → says_one_of READINESS_STATES below ≡ true → says_one_of READINESS_STATES (first_of_two o below) ≡ true
ready_given None below e h = h
ready_given (Some x) below e h = ready_value x.value e

-- A NEW STEP

nul_step : (b : ℕ) (rest after : List ℕ) → rest ≡ after → (if is_padding b && is_nil rest then [] else b ∷ rest) ≡ (if is_padding b && is_nil after then [] else b ∷ after)
nul_step b rest after same = ap (λ (l : List ℕ). if is_padding b && is_nil l then [] else b ∷ l) same

nul_is_padding : (text : List ℕ) → without_padding (text ++ 0 ∷ []) ≡ without_padding text
nul_is_padding [] = refl
nul_is_padding (b ∷ bs) = nul_step b (without_padding (bs ++ 0 ∷ [])) (without_padding bs) (nul_is_padding bs)

either_way : (even : Bool) (text : List ℕ) → without_padding (if even then text else text ++ 0 ∷ []) ≡ without_padding text
either_way true text = refl
either_way false text = nul_is_padding text

-- the value of a UID says that UID
says_itself : (step u : List ℕ) → IsStepUid step → bytes_eq step u ≡ true → says u (Some (instance_element step)) ≡ true
says_itself step u is same = ap (λ (l : List ℕ). bytes_eq l u) (either_way ((length step % 2) == 0) step ∙ sym (spells_itself step is.is_uid).parts) ∙ same

new_at : (t : Tag) (step : List ℕ) (set : List El) → element_at t (new_row step set) ≡ (if is_tag SOP_CLASS_UID t then Some sop_class_element else (if is_tag SOP_INSTANCE_UID t then Some (instance_element step) else element_at t (without_transaction set)))
new_at t step set =
    element_at-put t sop_class_element (put (instance_element step) (without_transaction set))
    ∙ ap (λ o. if is_tag SOP_CLASS_UID t then Some sop_class_element else o) (element_at-put t (instance_element step) (without_transaction set))

-- what is accepted of a new step
created : (used scheduled blank : Bool) (checks : Status) → (if used then DuplicateSopInstance else (if scheduled then (if blank then checks else InvalidAttributeValue) else NotScheduled)) ≡ Success → (scheduled ≡ true) × (checks ≡ Success)
created true scheduled blank checks e = absurd cc
created false false blank checks e = absurd cc
created false true false checks e = absurd cc
created false true true checks e = (refl, e)

tells_new : (used : Bool) (u step : List ℕ) (set below : List El) → IsStepUid step → IsDataSet set → bytes_eq step u ≡ true → (if used then DuplicateSopInstance else create_status set) ≡ Success
    → TellsStep u Scheduled (laid_over (new_row step set) below)
tells_new used u step set below is good same accepted =
    let so = created used (says (state_text Scheduled) (element_at PROCEDURE_STEP_STATE set)) (is_blank (element_at TRANSACTION_UID set)) (first_fault checked_attributes set) accepted in
    let checks = no_fault _ _ (no_fault _ _ so.1).1 in
    record {
      state = ap (says (state_text Scheduled)) (over PROCEDURE_STEP_STATE) ∙ says_over (state_text Scheduled) (element_at PROCEDURE_STEP_STATE (new_row step set)) (element_at PROCEDURE_STEP_STATE below) (ap (says (state_text Scheduled)) (new_at PROCEDURE_STEP_STATE step set ∙ without_at PROCEDURE_STEP_STATE set refl) ∙ so.0);
      step = ap (says u) (over SOP_INSTANCE_UID) ∙ says_over u (element_at SOP_INSTANCE_UID (new_row step set)) (element_at SOP_INSTANCE_UID below) (ap (says u) (new_at SOP_INSTANCE_UID step set) ∙ says_itself step u is same);
      class = ap (says (text_of UpsPush)) (over SOP_CLASS_UID) ∙ says_over (text_of UpsPush) (element_at SOP_CLASS_UID (new_row step set)) (element_at SOP_CLASS_UID below) (ap (says (text_of UpsPush)) (new_at SOP_CLASS_UID step set));
      readiness = ap (says_one_of READINESS_STATES) (over INPUT_READINESS_STATE) ∙ says_one_over (element_at INPUT_READINESS_STATE (new_row step set)) (element_at INPUT_READINESS_STATE below)
          (ap (says_one_of READINESS_STATES) (new_at INPUT_READINESS_STATE step set ∙ without_at INPUT_READINESS_STATE set refl) ∙ ready_element (element_at INPUT_READINESS_STATE set) checks.0);
    }
  where
    over : (t : Tag) → element_at t (laid_over (new_row step set) below) ≡ first_of_two (element_at t (new_row step set)) (element_at t below)
    over t = element_at-laid_over 0 t (new_row step set) below (new_set step set is good)

-- A STEP THAT IS HELD

-- an attribute besides the state
beside_state : (t : Tag) (to : StepState) (set : List El) → is_tag PROCEDURE_STEP_STATE t ≡ false → element_at t (put (state_element to) set) ≡ element_at t set
beside_state t to set other = element_at-put t (state_element to) set ∙ ap (λ b. if b then Some (state_element to) else element_at t set) other

says_state : (to : StepState) (set : List El) → says (state_text to) (element_at PROCEDURE_STEP_STATE (put (state_element to) set)) ≡ true
says_state to set = ap (says (state_text to)) (element_at-put PROCEDURE_STEP_STATE (state_element to) set) ∙ itself to
  where
    itself : (to : StepState) → says (state_text to) (Some (state_element to)) ≡ true
    itself Scheduled = refl
    itself InProgress = refl
    itself Completed = refl
    itself Canceled = refl

-- a step in another state
tells_state : (u : List ℕ) (before to : StepState) (set : List El) → TellsStep u before set → TellsStep u to (put (state_element to) set)
tells_state u before to set told = record {
  state = says_state to set;
  step = ap (says u) (beside_state SOP_INSTANCE_UID to set refl) ∙ told.step;
  class = ap (says (text_of UpsPush)) (beside_state SOP_CLASS_UID to set refl) ∙ told.class;
  readiness = ap (says_one_of READINESS_STATES) (beside_state INPUT_READINESS_STATE to set refl) ∙ told.readiness;
}

-- a step with another attribute than these
tells_beside : (u : List ℕ) (now : StepState) (x : El) (set : List El) → is_tag x.tag PROCEDURE_STEP_STATE ≡ false → is_tag x.tag SOP_INSTANCE_UID ≡ false → is_tag x.tag SOP_CLASS_UID ≡ false → is_tag x.tag INPUT_READINESS_STATE ≡ false
    → TellsStep u now set → TellsStep u now (put x set)
tells_beside u now x set no_state no_step no_class no_readiness told = record {
  state = ap (says (state_text now)) (beside PROCEDURE_STEP_STATE no_state) ∙ told.state;
  step = ap (says u) (beside SOP_INSTANCE_UID no_step) ∙ told.step;
  class = ap (says (text_of UpsPush)) (beside SOP_CLASS_UID no_class) ∙ told.class;
  readiness = ap (says_one_of READINESS_STATES) (beside INPUT_READINESS_STATE no_readiness) ∙ told.readiness;
}
  where
    beside : (t : Tag) → is_tag x.tag t ≡ false → element_at t (put x set) ≡ element_at t set
    beside t other = element_at-put t x set ∙ ap (λ b. if b then Some x else element_at t set) other

tells_canceled : (A : Type 0) (u : List ℕ) (offset : ℤ) (moment : ℕ) (before : StepState) (step : Option (List ℕ)) (reasons set : List El) → TellsStep u before set
    → TellsStep u (state_then {A = A} before (AskCancel step reasons)) (laid_over (given {A = A} offset moment before (AskCancel step reasons)) set)
tells_canceled A u offset moment Scheduled step reasons set told =
    tells_beside u Canceled (progress_element offset moment reasons) (put (state_element Canceled) set) refl refl refl refl (tells_state u Scheduled Canceled set told)
tells_canceled A u offset moment InProgress step reasons set told = told
tells_canceled A u offset moment Completed step reasons set told = told
tells_canceled A u offset moment Canceled step reasons set told = told

not_given : (o below : Option El) → is_some o ≡ false → first_of_two o below ≡ below
not_given None below e = refl
not_given (Some x) below e = absurd cc

if_free : (fixed : Bool) (checks : Status) → (if fixed then InvalidAttributeValue else checks) ≡ Success → (fixed ≡ false) × (checks ≡ Success)
if_free true checks e = absurd cc
if_free false checks e = (refl, e)

tells_set : (u : List ℕ) (now : StepState) (set below : List El) → IsDataSet set → set_attributes_status set ≡ Success → TellsStep u now below → TellsStep u now (laid_over (without_transaction set) below)
tells_set u now set below good accepted told =
    let so = if_free (gives_fixed set) (first_given_fault checked_attributes set) accepted in
    let fixed = neither (is_some (element_at SOP_CLASS_UID set) || is_some (element_at SOP_INSTANCE_UID set)) (is_some (element_at PROCEDURE_STEP_STATE set)) so.0 in
    let uids = neither (is_some (element_at SOP_CLASS_UID set)) (is_some (element_at SOP_INSTANCE_UID set)) fixed.0 in
    let checks = no_fault _ _ (no_fault _ _ so.1).1 in
    record {
      state = ap (says (state_text now)) (over PROCEDURE_STEP_STATE refl ∙ not_given _ _ fixed.1) ∙ told.state;
      step = ap (says u) (over SOP_INSTANCE_UID refl ∙ not_given _ _ uids.1) ∙ told.step;
      class = ap (says (text_of UpsPush)) (over SOP_CLASS_UID refl ∙ not_given _ _ uids.0) ∙ told.class;
      readiness = ap (says_one_of READINESS_STATES) (over INPUT_READINESS_STATE refl) ∙ ready_given (element_at INPUT_READINESS_STATE set) (element_at INPUT_READINESS_STATE below) checks.0 told.readiness;
    }
  where
    over : (t : Tag) → is_tag t TRANSACTION_UID ≡ false → element_at t (laid_over (without_transaction set) below) ≡ first_of_two (element_at t set) (element_at t below)
    over t other =
        element_at-laid_over 0 t (without_transaction set) below (filtered (λ e. not (is_tag e.tag TRANSACTION_UID)) 0 set good)
        ∙ ap (λ o. first_of_two o (element_at t below)) (without_at t set other)

-- EACH ENTRY

-- what was accepted of an entry on the step
tells_after : {A : Type 0} (s : Settings) (es : List (Entry A)) (u : List ℕ) (moment : ℕ) (r : Request A) → is_on u r ≡ true → IsWellFormed r → said s es r ≡ Success
    → (is_held s es u ≡ true → TellsStep u (state es u) (row s es u))
    → TellsStep u (state_then (state es u) r) (laid_over (given s.offset moment (state es u) r) (row s es u))
tells_after s es u moment (Create step set) on (is, good) d before = tells_new (used es step) u step set (row s es u) is good on d
tells_after s es u moment (Change step to t) on good d before = tells_state u (state es u) to (row s es u) (before (on_held s es u (Change step to t) d on refl))
tells_after {A} s es u moment (AskCancel step reasons) on good d before = tells_canceled A u s.offset moment (state es u) step reasons (row s es u) (before (on_held s es u (AskCancel step reasons) d on refl))
tells_after s es u moment (Set None t set) on good d before = absurd cc
tells_after s es u moment (Set (Some v) t set) on good d before =
    tells_set u (state es u) set (row s es u) good (no_fault _ _ (was_held (is_held s es v) (row_of s es v) (λ r. update_status r t set) d).1).1
    (before (on_held s es u (Set (Some v) t set) d on refl))
tells_after s es u moment r on good d before = absurd cc

either_way_among : (here there more : Bool) → (there ≡ true → more ≡ true) → here || there ≡ true → here || more ≡ true
either_way_among true there more later h = refl
either_way_among false there more later h = later h

or_more : (here more : Bool) → more ≡ true → here || more ≡ true
or_more true more h = refl
or_more false more h = h

pub any_filter : {X : Type 0} (p q : X → Bool) (xs : List X) → list_any p (filter q xs) ≡ true → list_any p xs ≡ true
any_filter p q [] h = h
any_filter p q (x ∷ xs) h = at (q x) (any_filter p q xs) h
  where
    at : (stays : Bool) → (list_any p (filter q xs) ≡ true → list_any p xs ≡ true) → list_any p (cond stays (x ∷ filter q xs) (filter q xs)) ≡ true → p x || list_any p xs ≡ true
    at true later g = either_way_among (p x) (list_any p (filter q xs)) (list_any p xs) later g
    at false later g = or_more (p x) (list_any p xs) (later g)

-- a step that an entry is not on was held before it
pub held_before : {A : Type 0} (s : Settings) (es : List (Entry A)) (moment : ℕ) (us : List (List ℕ)) (u : List ℕ) (r : Request A) → is_on u r ≡ false → list_any (λ v. bytes_eq v u) (held_after s es moment us r) ≡ true → list_any (λ v. bytes_eq v u) us ≡ true
held_before s es moment us u (Create step set) off h = stays (list_any (λ v. bytes_eq v u) us) refl
  where
    stays : (b : Bool) → list_any (λ v. bytes_eq v u) us ≡ b → list_any (λ v. bytes_eq v u) us ≡ true
    stays true e = e
    stays false e = let c : false ≡ true = sym (not_among_more u step us e off) ∙ h in absurd cc
held_before s es moment us u Sweep off h = any_filter (λ v. bytes_eq v u) (λ v. not (is_due s es moment v)) us h
held_before s es moment us u r off h = h

pub each_row_tells : {A : Type 0} (s : Settings) (es : List (Entry A)) → AreWellFormed es → legal s es ≡ true → (u : List ℕ) → is_held s es u ≡ true → TellsStep u (state es u) (row s es u)
each_row_tells s [] good h u now_held = absurd cc
each_row_tells {A} s (e ∷ es) (good, more) h u now_held = by (each_row_tells s es more (legal_tail s e es h) u) (is_on u e.request) refl
  where
    by : (is_held s es u ≡ true → TellsStep u (state es u) (row s es u)) → (on : Bool) → is_on u e.request ≡ on
        → TellsStep u (if on then state_then (state es u) e.request else state es u) (laid_over (if on then given s.offset e.moment (state es u) e.request else []) (row s es u))
    by before true on = tells_after s es u e.moment e.request on good (succeeded s e es h) before
    by before false off = before (held_before s es e.moment (held s es) u e.request off now_held)
