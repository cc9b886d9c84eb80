-- What a history of accepted requests says about a step. Histories here have the newest entry first; each question is
-- one recursion over the history, with one function that says how an entry on the step changes the answer.
use Rattle.std.specs.Prelude.{ℕ, ℤ, Bool, false, not, ◌&&◌, ◌||◌, List, [], ◌∷◌, reverse, filter, Option, None, Some, if◌then◌else◌}
use Rattle.std.specs.Option.{option_or, option_map}
use Rattle.std.specs.Str.{bytes_eq}
use Rattle.ups_pdu.specs.declared.registered.RegisteredUid.TheVariants.{UpsPush}
use Rattle.ups_pdu.specs.Registered.{text_of}
use Rattle.ups_dataset.specs.declared.dictionary.TheConstants.{SOP_CLASS_UID, SOP_INSTANCE_UID, TRANSACTION_UID, PROCEDURE_STEP_STATE, PROCEDURE_STEP_PROGRESS_INFORMATION_SEQUENCE, PROCEDURE_STEP_CANCELLATION_DATE_TIME, PROCEDURE_STEP_DISCONTINUATION_REASON_CODE_SEQUENCE, REASON_FOR_CANCELLATION}
use Rattle.ups_dataset.specs.declared.tag.Tag.{Tag}
use Rattle.ups_dataset.specs.declared.vr.Vr.TheVariants.{Cs, Dt, Sq, Ui}
use Rattle.ups_dataset.specs.Data.{El, bytes, items, items_of, put, laid_over, is_listed}
use Rattle.ups_dataset.specs.Tag.{is_tag}
use Rattle.ups_match.specs.Moments.{stamp}
use Rattle.ups_life.specs.declared.request.Request.{Request}
use Rattle.ups_life.specs.declared.request.Request.TheVariants.{Create, Change, AskCancel, Set, Subscribe, Unsubscribe, Reserve}
use Rattle.ups_life.specs.declared.watching.Target.{Target}
use Rattle.ups_life.specs.declared.watching.Target.TheVariants.{Single}
use Rattle.ups_life.specs.declared.watching.Place.{Place}
use Rattle.ups_life.specs.declared.watching.Place.TheVariants.{At}
use Rattle.ups_life.specs.declared.request.Transaction.TheVariants.{Proper}
use Rattle.ups_cycle.specs.declared.state.StepState.{StepState}
use Rattle.ups_cycle.specs.declared.state.StepState.TheVariants.{Scheduled, InProgress, Canceled}
use Rattle.ups_life.specs.declared.row.Row.{Row}
use Rattle.ups_life.specs.declared.row.Holder.{Holder}
use Rattle.ups_life.specs.declared.entry.Entry.{Entry}
use Rattle.ups_life.specs.Settings.{Settings}
use Rattle.ups_cycle.specs.States.{is_final, state_text}
use Rattle.ups_life.specs.Values.{uid_value, text_value}

-- a history that is kept oldest first, reversed so that its newest entry comes first
abbrev pub past : {A : Type 0} → List (Entry A) → List (Entry A)
past history = reverse history

-- the step that a request creates or changes; a malformed instance is no step
abbrev pub step_of : {A : Type 0} → Request A → Option (List ℕ)
step_of (Create step attributes) = Some step
step_of (Change step state transaction) = step
step_of (AskCancel step reasons) = step
step_of (Set step transaction attributes) = step
step_of request = None

abbrev pub target_step : {A : Type 0} → Target A → Option (List ℕ)
target_step (Single step) = step
target_step target = None

abbrev pub place_step : Place → Option (List ℕ)
place_step (At step) = step
place_step place = None

-- the step that a request names, including that of a subscription, which does not change the step
abbrev pub named_step : {A : Type 0} → Request A → Option (List ℕ)
named_step (Subscribe target receiver lock) = target_step target
named_step (Unsubscribe place receiver) = place_step place
named_step request = step_of request

abbrev pub is_step : List ℕ → Option (List ℕ) → Bool
is_step u None = false
is_step u (Some step) = bytes_eq step u

-- the request creates or changes this step
abbrev pub is_on : {A : Type 0} → List ℕ → Request A → Bool
is_on u request = is_step u (step_of request)

-- the request creates this step
abbrev pub creates : {A : Type 0} → List ℕ → Request A → Bool
creates u (Create step attributes) = bytes_eq step u
creates u request = false

-- the request uses this UID: it creates a step with it, or reserves it
abbrev pub uses_uid : {A : Type 0} → List ℕ → Request A → Bool
uses_uid u (Create step attributes) = bytes_eq step u
uses_uid u (Reserve step) = bytes_eq step u
uses_uid u request = false

-- a step with this UID was created, or the UID reserved: it stays used from then on (PS3.4 CC.2.5)
abbrev pub used : {A : Type 0} → List (Entry A) → List ℕ → Bool
used [] u = false
used (e ∷ es) u = uses_uid u e.request || used es u

-- a request to cancel makes a step that nobody has claimed CANCELED at once; otherwise the performer is asked
-- (PS3.4 CC.2.2)
abbrev pub canceled : StepState → StepState
canceled Scheduled = Canceled
canceled state = state

-- the state of a step after a request on it (PS3.4 CC.1.1)
abbrev pub state_then : {A : Type 0} → StepState → Request A → StepState
state_then before (Create step attributes) = Scheduled
state_then before (Change step state transaction) = state
state_then before (AskCancel step reasons) = canceled before
state_then before request = before

-- the state of u
abbrev pub state : {A : Type 0} → List (Entry A) → List ℕ → StepState
state [] u = Scheduled
state (e ∷ es) u = if is_on u e.request then state_then (state es u) e.request else state es u

-- a claim: who made it, and with which Transaction UID
pub record Claim : Type 0 where
  pub holder : Holder
  pub transaction : List ℕ

-- the Transaction UID with which a request claims its step: that of a change to IN PROGRESS (PS3.4 CC.2.1)
abbrev pub taken : {A : Type 0} → Request A → Option (List ℕ)
taken (Change step InProgress (Proper uid)) = Some uid
taken request = None

-- the claim that an entry makes
abbrev pub claimed : {A : Type 0} → Entry A → Option Claim
claimed e = option_map (λ uid. record { holder = record { caller = e.caller; ae = e.ae }; transaction = uid }) (taken e.request)

-- the claim of u
abbrev pub claim : {A : Type 0} → List (Entry A) → List ℕ → Option Claim
claim [] u = None
claim (e ∷ es) u = if is_on u e.request then option_or (claimed e) (claim es u) else claim es u

-- the right Transaction UID for u: that of its claim
abbrev pub right : {A : Type 0} → List (Entry A) → List ℕ → Option (List ℕ)
right es u = option_map (λ (c : Claim). c.transaction) (claim es u)

-- the moment, if the request makes the state final
abbrev pub finished : {A : Type 0} → StepState → ℕ → Request A → Option ℕ
finished before moment request = if not (is_final before) && is_final (state_then before request) then Some moment else None

-- when the state of u became final
abbrev pub final_at : {A : Type 0} → List (Entry A) → List ℕ → Option ℕ
final_at [] u = None
final_at (e ∷ es) u = if is_on u e.request then option_or (finished (state es u) e.moment e.request) (final_at es u) else final_at es u

-- the elements that identify a step: its SOP class, UPS Push, and its instance UID (PS3.4 CC.2.5)
abbrev pub sop_class_element : El
sop_class_element = record { tag = SOP_CLASS_UID; vr = Ui; value = bytes (uid_value (text_of UpsPush)) }

abbrev pub instance_element : List ℕ → El
instance_element step = record { tag = SOP_INSTANCE_UID; vr = Ui; value = bytes (uid_value step) }

-- the set without the Transaction UID, which is shown to nobody (PS3.4 CC.2.5.1.3)
abbrev pub without_transaction : List El → List El
without_transaction set = filter (λ e. not (is_tag e.tag TRANSACTION_UID)) set

-- the attributes of a new step: those sent, without the Transaction UID, and those that identify the step
abbrev pub new_row : List ℕ → List El → List El
new_row step attributes = put sop_class_element (put (instance_element step) (without_transaction attributes))

abbrev pub state_element : StepState → El
state_element state = record { tag = PROCEDURE_STEP_STATE; vr = Cs; value = bytes (text_value (state_text state)) }

-- the attributes of a cancel request that are kept, if given: its reason, as a code and as a text (PS3.4 CC.2.2)
abbrev pub REASONS : List Tag
REASONS = PROCEDURE_STEP_DISCONTINUATION_REASON_CODE_SEQUENCE ∷ REASON_FOR_CANCELLATION ∷ []

-- when a step was canceled, and why
unfoldable pub cancellation : ℤ → ℕ → List El → List El
cancellation offset moment reasons =
    put (record { tag = PROCEDURE_STEP_CANCELLATION_DATE_TIME; vr = Dt; value = bytes (text_value (stamp moment offset)) }) (filter (λ e. is_listed e.tag REASONS) reasons)

abbrev pub progress_element : ℤ → ℕ → List El → El
progress_element offset moment reasons =
    record { tag = PROCEDURE_STEP_PROGRESS_INFORMATION_SEQUENCE; vr = Sq; value = items (items_of (cancellation offset moment reasons ∷ [])) }

-- the elements that a cancel request gives to a step in this state
abbrev pub cancel_gives : StepState → ℤ → ℕ → List El → List El
cancel_gives Scheduled offset moment reasons = put (state_element Canceled) (put (progress_element offset moment reasons) [])
cancel_gives state offset moment reasons = []

-- the elements that a request at this moment gives for its step, which was in this state (PS3.4 CC.2.1, CC.2.2, CC.2.5,
-- CC.2.6)
abbrev pub given : {A : Type 0} → ℤ → ℕ → StepState → Request A → List El
given offset moment before (Create step attributes) = new_row step attributes
given offset moment before (Change step state transaction) = state_element state ∷ []
given offset moment before (AskCancel step reasons) = cancel_gives before offset moment reasons
given offset moment before (Set step transaction attributes) = without_transaction attributes
given offset moment before request = []

-- the elements that an entry gives for u
abbrev pub gives : {A : Type 0} → ℤ → StepState → List ℕ → Entry A → List El
gives offset before u e = if is_on u e.request then given offset e.moment before e.request else []

-- the attributes of u: each has the value of the last entry that gives it (PS3.4 CC.2.5, CC.2.6)
abbrev pub row : {A : Type 0} → Settings → List (Entry A) → List ℕ → List El
row s [] u = []
row s (e ∷ es) u = laid_over (gives s.offset (state es u) u e) (row s es u)

-- the row of u in full
abbrev pub row_of : {A : Type 0} → Settings → List (Entry A) → List ℕ → Row A
row_of s es u = record { attributes = row s es u; state = state es u; transaction = right es u; final_at = final_at es u }

-- the row of a step before it is created
abbrev pub nothing : {A : Type 0} → Row A
nothing = record { attributes = []; state = Scheduled; transaction = None; final_at = None }

-- the row of a step after a request on it
abbrev pub row_after : {A : Type 0} → ℤ → ℕ → Row A → Request A → Row A
row_after offset moment before request = record {
  attributes = laid_over (given offset moment before.state request) before.attributes;
  state = state_then before.state request;
  transaction = option_or (taken request) before.transaction;
  final_at = option_or (finished before.state moment request) before.final_at;
}

-- the holder of a step: who has claimed it
abbrev pub holder : {A : Type 0} → List (Entry A) → List ℕ → Option Holder
holder es u = option_map (λ (c : Claim). c.holder) (claim es u)
