-- The status of a request by the row of its step: the life cycle of a step (PS3.4 CC.1.1, CC.2.1, CC.2.2, CC.2.3,
-- CC.2.5, CC.2.6).
use Rattle.std.specs.Prelude.{Bool, true, false, ◌||◌, List, [], ◌∷◌, ℕ, Option, None, Some, codes, is_some, if◌then◌else◌}
use Rattle.std.specs.Str.{bytes_eq}
use Rattle.ups_dataset.specs.Data.{El, element_at}
use Rattle.ups_dataset.specs.declared.dictionary.TheConstants.{SOP_CLASS_UID, SOP_INSTANCE_UID, PROCEDURE_STEP_STATE, TRANSACTION_UID, UNIFIED_PROCEDURE_STEP_PERFORMED_PROCEDURE_SEQUENCE, PROCEDURE_STEP_PROGRESS_INFORMATION_SEQUENCE, PERFORMED_PROCEDURE_STEP_START_DATE_TIME, PERFORMED_PROCEDURE_STEP_END_DATE_TIME, PROCEDURE_STEP_CANCELLATION_DATE_TIME}
use Rattle.ups_cycle.specs.declared.status.Status.{Status}
use Rattle.ups_cycle.specs.declared.status.Status.TheVariants.{Success, InvalidAttributeValue, DuplicateSopInstance, UnknownInstance, NotScheduled, NoLongerUpdatable, WrongTransactionUid, AlreadyInProgress, ScheduledByCreateAlone, FinalStateNotMet, NotInProgress, TooLateToCancel, AlreadyCanceled, AlreadyCompleted}
use Rattle.ups_cycle.specs.declared.state.StepState.{StepState}
use Rattle.ups_cycle.specs.declared.state.StepState.TheVariants.{Scheduled, InProgress, Completed, Canceled}
use Rattle.ups_life.specs.declared.request.Transaction.{Transaction}
use Rattle.ups_life.specs.declared.request.Transaction.TheVariants.{Absent, Malformed, Proper}
use Rattle.ups_life.specs.declared.request.Request.{Request}
use Rattle.ups_life.specs.declared.request.Request.TheVariants.{Create, Change, AskCancel, Set, Subscribe, Unsubscribe}
use Rattle.ups_life.specs.declared.watching.Target.{Target}
use Rattle.ups_life.specs.declared.watching.Target.TheVariants.{Single}
use Rattle.ups_life.specs.declared.watching.Place.{Place}
use Rattle.ups_life.specs.declared.watching.Place.TheVariants.{At}
use Rattle.ups_life.specs.declared.row.Row.{Row}
use Rattle.ups_life.specs.CheckedAttributes.{checked_attributes}
use Rattle.ups_cycle.specs.Cycle.{claim_status, complete_status, discontinue_status, wrong_status, cancel_status, set_status}
use Rattle.ups_life.specs.Values.{says, is_blank, first_fault, first_given_fault, unless_fault, has_item_with}

-- the status of the attributes of a new step: SCHEDULED, the Transaction UID absent or empty, then the checked
-- attributes by rising tag (PS3.4 CC.2.5)
abbrev pub create_status : List El → Status
create_status set =
    if says (codes "SCHEDULED") (element_at PROCEDURE_STEP_STATE set) then (
    if is_blank (element_at TRANSACTION_UID set) then first_fault checked_attributes set else InvalidAttributeValue) else NotScheduled

abbrev pub is_proper : Transaction → Bool
is_proper Absent = false
is_proper Malformed = false
is_proper (Proper uid) = true

abbrev pub is_given : Transaction → Bool
is_given Absent = false
is_given Malformed = true
is_given (Proper uid) = true

-- the Transaction UID is that of the claim
abbrev pub is_right : Option (List ℕ) → Transaction → Bool
is_right (Some right) (Proper uid) = bytes_eq uid right
is_right right transaction = false

-- the attributes have what COMPLETED requires: exactly one performed procedure, with its start and its end
-- (PS3.4 CC.2.5, table CC.2.5-3)
abbrev pub is_performed : List El → Bool
is_performed set = has_item_with (PERFORMED_PROCEDURE_STEP_START_DATE_TIME ∷ PERFORMED_PROCEDURE_STEP_END_DATE_TIME ∷ []) (element_at UNIFIED_PROCEDURE_STEP_PERFORMED_PROCEDURE_SEQUENCE set)

-- the attributes have what CANCELED requires: exactly one item of progress information, with the time of the
-- cancellation (PS3.4 table CC.2.5-3)
abbrev pub is_discontinued : List El → Bool
is_discontinued set = has_item_with (PROCEDURE_STEP_CANCELLATION_DATE_TIME ∷ []) (element_at PROCEDURE_STEP_PROGRESS_INFORMATION_SEQUENCE set)

-- the status of a change of a step to a state (PS3.4 CC.2.1)
abbrev pub change_status : {A : Type 0} → Row A → StepState → Transaction → Status
change_status r Scheduled t = ScheduledByCreateAlone
change_status r InProgress t = if is_proper t then claim_status r.state else WrongTransactionUid
change_status r Completed t = if is_right r.transaction t then complete_status (is_performed r.attributes) r.state else wrong_status (is_proper t) r.state
change_status r Canceled t = if is_right r.transaction t then discontinue_status (is_discontinued r.attributes) r.state else wrong_status (is_proper t) r.state

-- the set has the SOP class, the UID or the state of the step, which no N-SET may give (PS3.4 CC.2.6)
abbrev pub gives_fixed : List El → Bool
gives_fixed set = is_some (element_at SOP_CLASS_UID set) || is_some (element_at SOP_INSTANCE_UID set) || is_some (element_at PROCEDURE_STEP_STATE set)

abbrev pub set_attributes_status : List El → Status
set_attributes_status set = if gives_fixed set then InvalidAttributeValue else first_given_fault checked_attributes set

-- the status of an N-SET on a step (PS3.4 CC.2.6)
abbrev pub update_status : {A : Type 0} → Row A → Transaction → List El → Status
update_status r t set = unless_fault (set_status (is_right r.transaction t) (is_given t) r.state) (set_attributes_status set)

-- the status decided by the row of a held step; any other step is unknown
abbrev pub if_held : {A : Type 0} → Option (Row A) → (Row A → Status) → Status
if_held None decide = UnknownInstance
if_held (Some r) decide = decide r

-- a subscription to one step requires that the step is held (PS3.4 CC.2.3)
abbrev pub target_status : {A : Type 0} → Option (Row A) → Target A → Status
target_status row (Single step) = if_held row (λ r. Success)
target_status row target = Success

-- and so does the end of one
abbrev pub place_status : {A : Type 0} → Option (Row A) → Place → Status
place_status row (At step) = if_held row (λ r. Success)
place_status row place = Success

-- the status of a request; `row`: the row of its step, if that is held; `used`: a step with this UID was created before
abbrev pub verdict : {A : Type 0} → Option (Row A) → Bool → Request A → Status
verdict row used (Create step attributes) = if used then DuplicateSopInstance else create_status attributes
verdict row used (Change step state transaction) = if_held row (λ r. change_status r state transaction)
verdict row used (AskCancel step reasons) = if_held row (λ r. cancel_status r.state)
verdict row used (Set step transaction attributes) = if_held row (λ r. update_status r transaction attributes)
verdict row used (Subscribe target receiver lock) = target_status row target
verdict row used (Unsubscribe place receiver) = place_status row place
verdict row used request = Success
