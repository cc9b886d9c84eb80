-- Worked rows: what the definitions say of small histories, computed by the check.
use Rattle.std.proofs.Common.{◌≡◌, ℕ, List, [], ◌∷◌, ◌++◌, refl}
use Rattle.std.specs.Prelude.{Some, None, Ok, Err, codes, map, pos}
use Rattle.ups_pdu.specs.declared.registered.RegisteredUid.TheVariants.{UpsPush, GlobalSubscription}
use Rattle.ups_pdu.specs.Registered.{text_of}
use Rattle.ups_dataset.specs.declared.tag.Tag.{Tag}
use Rattle.ups_dataset.specs.declared.vr.Vr.{Vr}
use Rattle.ups_dataset.specs.declared.vr.Vr.TheVariants.{Cs, Dt, Lo, Lt, Sq, Ui}
use Rattle.ups_dataset.specs.declared.dictionary.TheConstants.{SOP_CLASS_UID, SOP_INSTANCE_UID, TRANSACTION_UID, SCHEDULED_PROCEDURE_STEP_START_DATE_TIME, INPUT_READINESS_STATE, PROCEDURE_STEP_STATE, SCHEDULED_PROCEDURE_STEP_PRIORITY, PROCEDURE_STEP_LABEL, UNIFIED_PROCEDURE_STEP_PERFORMED_PROCEDURE_SEQUENCE, PERFORMED_PROCEDURE_STEP_START_DATE_TIME, PERFORMED_PROCEDURE_STEP_END_DATE_TIME, PROCEDURE_STEP_PROGRESS_INFORMATION_SEQUENCE, PROCEDURE_STEP_CANCELLATION_DATE_TIME, REASON_FOR_CANCELLATION}
use Rattle.ups_dataset.specs.Data.{El, bytes, items, items_of, no_items}
use Rattle.ups_life.specs.declared.request.Request.{Request}
use Rattle.ups_life.specs.declared.request.Request.TheVariants.{Create, Change, AskCancel, Set, Reserve}
use Rattle.ups_life.specs.declared.request.Transaction.TheVariants.{Absent, Malformed, Proper}
use Rattle.ups_life.specs.declared.request.Ask.TheVariants.{Do}
use Rattle.ups_life.specs.declared.request.Reply.{Reply}
use Rattle.ups_life.specs.declared.request.Reply.TheVariants.{Status as Answered, Set as Shown}
use Rattle.ups_cycle.specs.declared.state.StepState.{StepState}
use Rattle.ups_cycle.specs.declared.state.StepState.TheVariants.{Scheduled, InProgress, Completed, Canceled}
use Rattle.ups_life.specs.declared.entry.Entry.{Entry}
use Rattle.ups_cycle.specs.declared.status.Status.{Status}
use Rattle.ups_cycle.specs.declared.status.Status.TheVariants.{Success, AttributesNotSupported, InvalidAttributeValue, DuplicateSopInstance, InvalidArgumentValue, InvalidObjectInstance, MissingAttribute, MissingAttributeValue, NoSuchActionType, ResourceLimitation, AlreadyCanceled, AlreadyCompleted, NoLongerUpdatable, WrongTransactionUid, AlreadyInProgress, ScheduledByCreateAlone, FinalStateNotMet, UnknownInstance, NotScheduled, NotInProgress, TooLateToCancel, ActionNotAppropriate}
use Rattle.ups_dimse.specs.declared.command.Operation.TheVariants as operations
use Rattle.ups_life.specs.Settings.{Settings}
use Rattle.ups_life.specs.Asking.{asked}
use Rattle.ups_match.specs.Moments.{moment, day_number, days_of_month, field, is_date, is_time, date_number, second_of_day, microsecond_of, offset_of, signed_offset, stamp, begun, date_stamp, time_stamp, offset_stamp, year_on, month_on}
use Rattle.ups_life.specs.Steps.{cancellation, row, holder, state, final_at}
use Rattle.ups_life.specs.Watching.{held}
use Rattle.ups_life.specs.History.{reply, entered_by, got}

abbrev site : Settings
site = record { peers = []; keep = 60; offset = pos 0; limit = 1000000 }

-- no allocator is looked at
abbrev Asked : Type 0
Asked = Request (Unit {0})

abbrev step_one : List ℕ
step_one = codes "1.2.3.1"

abbrev step_two : List ℕ
step_two = codes "1.2.3.2"

abbrev step_three : List ℕ
step_three = codes "1.2.3.3"

abbrev says : Tag → Vr → List ℕ → El
says tag vr text = record { tag = tag; vr = vr; value = bytes text }

-- a step that is to begin at noon: ready, scheduled, of medium priority
abbrev start : El
start = says SCHEDULED_PROCEDURE_STEP_START_DATE_TIME Dt (codes "20240229120000")

abbrev ready : El
ready = says INPUT_READINESS_STATE Cs (codes "READY ")

abbrev scheduled : El
scheduled = says PROCEDURE_STEP_STATE Cs (codes "SCHEDULED ")

abbrev priority : List ℕ → El
priority text = says SCHEDULED_PROCEDURE_STEP_PRIORITY Cs text

abbrev label : El
label = says PROCEDURE_STEP_LABEL Lo (codes "CT READ ")

abbrev a_step : List El
a_step = start ∷ ready ∷ scheduled ∷ priority (codes "MEDIUM") ∷ label ∷ []

abbrev create : List ℕ → List El → Asked
create step attributes = Create step attributes

-- each is asked two minutes after 1970 began
abbrev entry : Asked → Entry (Unit {0})
entry request = record { caller = 0; ae = codes "SCHED1"; moment = 120; request = request }

-- the history after some requests, newest first, and the replies to the requests
abbrev after_all : Settings → List (Entry (Unit {0})) → List Asked → List (Entry (Unit {0}))
after_all s es [] = es
after_all s es (r ∷ rs) = after_all s (entered_by (entry r) (reply s es (entry r)) ++ es) rs

abbrev replies : Settings → List (Entry (Unit {0})) → List Asked → List (Reply (Unit {0}))
replies s es [] = []
replies s es (r ∷ rs) = reply s es (entry r) ∷ replies s (entered_by (entry r) (reply s es (entry r)) ++ es) rs

-- replies that are statuses
abbrev answered : List Status → List (Reply (Unit {0}))
answered = map (λ status. Answered status)

abbrev one_step : List (Entry (Unit {0}))
one_step = after_all site [] (create step_one a_step ∷ [])

-- a step is created once
second_create_is_refused : replies site [] (create step_one a_step ∷ create step_one a_step ∷ []) ≡ answered (Success ∷ DuplicateSopInstance ∷ [])
unfolding moment day_number days_of_month field is_date is_time date_number second_of_day microsecond_of offset_of signed_offset
second_create_is_refused = refl

-- nor is one under a reserved UID, of which nothing else is known
reserved_uid_is_used : replies site [] (Reserve step_one ∷ create step_one a_step ∷ create step_two a_step ∷ []) ≡ answered (Success ∷ DuplicateSopInstance ∷ Success ∷ [])
unfolding moment day_number days_of_month field is_date is_time date_number second_of_day microsecond_of offset_of signed_offset
reserved_uid_is_used = refl

-- it is created as SCHEDULED, with each checked attribute, which has a value, which is a good one
bad_creates_are_refused : replies site one_step (
    create step_two (start ∷ ready ∷ says PROCEDURE_STEP_STATE Cs (codes "IN PROGRESS ") ∷ priority (codes "MEDIUM") ∷ label ∷ [])
    ∷ create step_two (start ∷ ready ∷ scheduled ∷ label ∷ [])
    ∷ create step_two (start ∷ ready ∷ scheduled ∷ priority [] ∷ label ∷ [])
    ∷ create step_two (start ∷ ready ∷ scheduled ∷ priority (codes "URGENT") ∷ label ∷ [])
    ∷ create step_two []
    ∷ create step_two (record { tag = PROCEDURE_STEP_STATE; vr = Cs; value = items no_items } ∷ []) ∷ [])
    ≡ answered (NotScheduled ∷ MissingAttribute ∷ MissingAttributeValue ∷ InvalidAttributeValue ∷ NotScheduled ∷ NotScheduled ∷ [])
unfolding moment day_number days_of_month field is_date is_time date_number second_of_day microsecond_of offset_of signed_offset
bad_creates_are_refused = refl

-- each of the checked attributes has to be there (PS3.4 table CC.2.5-3)
each_checked_attribute_is_required : replies site [] (
    create step_one (ready ∷ scheduled ∷ priority (codes "MEDIUM") ∷ label ∷ [])
    ∷ create step_one (start ∷ scheduled ∷ priority (codes "MEDIUM") ∷ label ∷ [])
    ∷ create step_one (start ∷ ready ∷ scheduled ∷ label ∷ [])
    ∷ create step_one (start ∷ ready ∷ scheduled ∷ priority (codes "MEDIUM") ∷ []) ∷ [])
    ≡ answered (MissingAttribute ∷ MissingAttribute ∷ MissingAttribute ∷ MissingAttribute ∷ [])
unfolding moment day_number days_of_month field is_date is_time date_number second_of_day microsecond_of offset_of signed_offset
each_checked_attribute_is_required = refl

-- the first fault by rising tag is told, and the Transaction UID comes before them
first_fault_is_told : replies site [] (
    create step_one (says INPUT_READINESS_STATE Cs (codes "MAYBE ") ∷ scheduled ∷ [])
    ∷ create step_one (start ∷ says INPUT_READINESS_STATE Cs (codes "MAYBE ") ∷ scheduled ∷ [])
    ∷ create step_one (says TRANSACTION_UID Ui (codes "2.1" ++ 0 ∷ []) ∷ scheduled ∷ [])
    ∷ create step_one (says TRANSACTION_UID Ui (0 ∷ 0 ∷ []) ∷ a_step) ∷ [])
    ≡ answered (MissingAttribute ∷ InvalidAttributeValue ∷ InvalidAttributeValue ∷ Success ∷ [])
unfolding moment day_number days_of_month field is_date is_time date_number second_of_day microsecond_of offset_of signed_offset
first_fault_is_told = refl

-- a step has a UID of its own
uid_is_absent_or_well_known :
    asked {A = Unit {0}} (pos 0) (operations.Create None) a_step ≡ Err InvalidObjectInstance
unfolding moment day_number days_of_month field is_date is_time date_number second_of_day microsecond_of offset_of signed_offset
uid_is_absent_or_well_known = refl

uid_of_all_steps_is_none : asked {A = Unit {0}} (pos 0) (operations.Create (Some (text_of GlobalSubscription))) a_step ≡ Err InvalidObjectInstance
unfolding moment day_number days_of_month field is_date is_time date_number second_of_day microsecond_of offset_of signed_offset
uid_of_all_steps_is_none = refl

-- what is held, and shown: the attributes with the class and the instance, never the Transaction UID
step_is_held : held site (after_all site [] (create step_one a_step ∷ create step_two [] ∷ create step_three a_step ∷ [])) ≡ step_one ∷ step_three ∷ []
unfolding moment day_number days_of_month field is_date is_time date_number second_of_day microsecond_of offset_of signed_offset
step_is_held = refl

abbrev shown_step : List El
shown_step = says SOP_CLASS_UID Ui (text_of UpsPush) ∷ says SOP_INSTANCE_UID Ui (codes "1.2.3.1" ++ 0 ∷ []) ∷ a_step

whole_step_is_shown : got site one_step (Some step_one) [] ≡ Shown Success shown_step
unfolding moment day_number days_of_month field is_date is_time date_number second_of_day microsecond_of offset_of signed_offset
whole_step_is_shown = refl

listed_attributes_are_shown : got site one_step (Some step_one) (PROCEDURE_STEP_STATE ∷ []) ≡ Shown Success (scheduled ∷ [])
unfolding moment day_number days_of_month field is_date is_time date_number second_of_day microsecond_of offset_of signed_offset
listed_attributes_are_shown = refl

transaction_uid_is_not_shown : got site one_step (Some step_one) (PROCEDURE_STEP_STATE ∷ TRANSACTION_UID ∷ []) ≡ Shown AttributesNotSupported (scheduled ∷ [])
unfolding moment day_number days_of_month field is_date is_time date_number second_of_day microsecond_of offset_of signed_offset
transaction_uid_is_not_shown = refl

nothing_is_left_to_show : got site one_step (Some step_one) (TRANSACTION_UID ∷ []) ≡ Shown AttributesNotSupported []
unfolding moment day_number days_of_month field is_date is_time date_number second_of_day microsecond_of offset_of signed_offset
nothing_is_left_to_show = refl

transaction_uid_is_not_kept : row site (after_all site [] (create step_one (says TRANSACTION_UID Ui [] ∷ a_step) ∷ [])) step_one ≡ shown_step
unfolding moment day_number days_of_month field is_date is_time date_number second_of_day microsecond_of offset_of signed_offset
transaction_uid_is_not_kept = refl

unknown_step_is_not_shown : got site one_step (Some step_two) [] ≡ Answered UnknownInstance
unfolding moment day_number days_of_month field is_date is_time date_number second_of_day microsecond_of offset_of signed_offset
unknown_step_is_not_shown = refl

malformed_instance_is_not_shown : got site one_step None [] ≡ Answered UnknownInstance
unfolding moment day_number days_of_month field is_date is_time date_number second_of_day microsecond_of offset_of signed_offset
malformed_instance_is_not_shown = refl

-- the history has room for as many entries as its limit says
abbrev small_site : Settings
small_site = record { peers = []; keep = 60; offset = pos 0; limit = 2 }

full_history_takes_no_more : replies small_site [] (create step_one a_step ∷ create step_two a_step ∷ create step_three a_step ∷ create step_one a_step ∷ [])
    ≡ answered (Success ∷ Success ∷ ResourceLimitation ∷ DuplicateSopInstance ∷ [])
unfolding moment day_number days_of_month field is_date is_time date_number second_of_day microsecond_of offset_of signed_offset
full_history_takes_no_more = refl

-- a step is claimed by the first who asks
abbrev claim : List ℕ → Asked
claim uid = Change (Some step_one) InProgress (Proper uid)

abbrev to : StepState → List ℕ → Asked
to state uid = Change (Some step_one) state (Proper uid)

abbrev mine : List ℕ
mine = codes "2.1"

abbrev other : List ℕ
other = codes "2.2"

abbrev claimed : List (Entry (Unit {0}))
claimed = after_all site one_step (claim mine ∷ [])

second_claim_is_refused : replies site one_step (claim mine ∷ claim other ∷ to Completed other ∷ to Scheduled mine ∷ []) ≡ answered (Success ∷ AlreadyInProgress ∷ WrongTransactionUid ∷ ScheduledByCreateAlone ∷ [])
unfolding moment day_number days_of_month field is_date is_time date_number second_of_day microsecond_of offset_of signed_offset
second_claim_is_refused = refl

holder_is_the_claimant : holder (after_all site claimed (claim other ∷ [])) step_one ≡ Some (record { caller = 0; ae = codes "SCHED1" })
unfolding moment day_number days_of_month field is_date is_time date_number second_of_day microsecond_of offset_of signed_offset
holder_is_the_claimant = refl

nobody_holds_a_scheduled_step : holder one_step step_one ≡ None
unfolding moment day_number days_of_month field is_date is_time date_number second_of_day microsecond_of offset_of signed_offset
nobody_holds_a_scheduled_step = refl

claim_needs_a_uid : replies site one_step (Change (Some step_one) InProgress Absent ∷ Change (Some step_one) InProgress Malformed ∷ Change (Some step_two) InProgress Absent ∷ Change None InProgress Absent ∷ [])
    ≡ answered (WrongTransactionUid ∷ WrongTransactionUid ∷ UnknownInstance ∷ UnknownInstance ∷ [])
unfolding moment day_number days_of_month field is_date is_time date_number second_of_day microsecond_of offset_of signed_offset
claim_needs_a_uid = refl

-- nobody finishes a step that is not claimed
scheduled_step_is_not_finished : replies site one_step (to Completed mine ∷ to Canceled mine ∷ Change (Some step_one) Completed Absent ∷ Change (Some step_one) Canceled Malformed ∷ [])
    ≡ answered (NotInProgress ∷ NotInProgress ∷ WrongTransactionUid ∷ WrongTransactionUid ∷ [])
unfolding moment day_number days_of_month field is_date is_time date_number second_of_day microsecond_of offset_of signed_offset
scheduled_step_is_not_finished = refl

-- what COMPLETED needs: one performed procedure, with its start and its end
abbrev performed : List (List El) → El
performed sets = record { tag = UNIFIED_PROCEDURE_STEP_PERFORMED_PROCEDURE_SEQUENCE; vr = Sq; value = items (items_of sets) }

abbrev one_performed : List El
one_performed = says PERFORMED_PROCEDURE_STEP_START_DATE_TIME Dt (codes "20240229120100") ∷ says PERFORMED_PROCEDURE_STEP_END_DATE_TIME Dt (codes "20240229120200") ∷ []

abbrev update : List ℕ → List El → Asked
update uid set = Set (Some step_one) (Proper uid) set

completed_after_what_was_performed_is_told : replies site claimed (
    to Completed other ∷ to Completed mine ∷ update mine (performed (one_performed ∷ []) ∷ []) ∷ to Completed mine ∷ to Completed mine ∷ to Canceled mine
    ∷ Change (Some step_one) Completed Absent ∷ AskCancel (Some step_one) [] ∷ claim other ∷ update mine [] ∷ [])
    ≡ answered (WrongTransactionUid ∷ FinalStateNotMet ∷ Success ∷ Success ∷ AlreadyCompleted ∷ NoLongerUpdatable ∷ WrongTransactionUid ∷ TooLateToCancel ∷ NoLongerUpdatable ∷ NoLongerUpdatable ∷ [])
unfolding moment day_number days_of_month field is_date is_time date_number second_of_day microsecond_of offset_of signed_offset
completed_after_what_was_performed_is_told = refl

one_performed_procedure_is_needed : replies site claimed (
    update mine (performed [] ∷ []) ∷ to Completed mine
    ∷ update mine (performed (one_performed ∷ one_performed ∷ []) ∷ []) ∷ to Completed mine
    ∷ update mine (performed ((says PERFORMED_PROCEDURE_STEP_START_DATE_TIME Dt (codes "20240229120100") ∷ []) ∷ []) ∷ []) ∷ to Completed mine
    ∷ update mine (performed ((says PERFORMED_PROCEDURE_STEP_START_DATE_TIME Dt (32 ∷ 32 ∷ []) ∷ says PERFORMED_PROCEDURE_STEP_END_DATE_TIME Dt (codes "20240229120200") ∷ []) ∷ []) ∷ []) ∷ to Completed mine ∷ [])
    ≡ answered (Success ∷ FinalStateNotMet ∷ Success ∷ FinalStateNotMet ∷ Success ∷ FinalStateNotMet ∷ Success ∷ FinalStateNotMet ∷ [])
unfolding moment day_number days_of_month field is_date is_time date_number second_of_day microsecond_of offset_of signed_offset
one_performed_procedure_is_needed = refl

-- what CANCELED needs: when it was given up
abbrev given_up : El
given_up = record { tag = PROCEDURE_STEP_PROGRESS_INFORMATION_SEQUENCE; vr = Sq; value = items (items_of ((says PROCEDURE_STEP_CANCELLATION_DATE_TIME Dt (codes "20240229120300") ∷ []) ∷ [])) }

canceled_after_its_time_is_told : replies site claimed (to Canceled mine ∷ update mine (given_up ∷ []) ∷ to Canceled mine ∷ to Canceled mine ∷ to Completed mine ∷ AskCancel (Some step_one) [] ∷ update mine [] ∷ [])
    ≡ answered (FinalStateNotMet ∷ Success ∷ Success ∷ AlreadyCanceled ∷ NoLongerUpdatable ∷ AlreadyCanceled ∷ NoLongerUpdatable ∷ [])
unfolding moment day_number days_of_month field is_date is_time date_number second_of_day microsecond_of offset_of signed_offset
canceled_after_its_time_is_told = refl

-- a cancel request before any claim cancels the step at once; nobody has held it
abbrev stopped : List (Entry (Unit {0}))
stopped = after_all site one_step (AskCancel (Some step_one) (says REASON_FOR_CANCELLATION Lt (codes "stop") ∷ []) ∷ [])

canceled_by_request_has_no_right_uid : replies site stopped (claim mine ∷ to Canceled mine ∷ to Completed mine ∷ AskCancel (Some step_one) [] ∷ []) ≡ answered (NoLongerUpdatable ∷ WrongTransactionUid ∷ WrongTransactionUid ∷ AlreadyCanceled ∷ [])
unfolding cancellation moment day_number days_of_month field is_date is_time date_number second_of_day microsecond_of offset_of signed_offset stamp begun date_stamp time_stamp offset_stamp year_on month_on
canceled_by_request_has_no_right_uid = refl

canceled_by_request_is_final : final_at stopped step_one ≡ Some 120
unfolding cancellation moment day_number days_of_month field is_date is_time date_number second_of_day microsecond_of offset_of signed_offset stamp begun date_stamp time_stamp offset_stamp year_on month_on
canceled_by_request_is_final = refl

-- a claimed step goes on after a request to cancel it: its performer is to be asked
claimed_step_goes_on : replies site claimed (AskCancel (Some step_one) [] ∷ to Canceled mine ∷ []) ≡ answered (Success ∷ FinalStateNotMet ∷ [])
unfolding moment day_number days_of_month field is_date is_time date_number second_of_day microsecond_of offset_of signed_offset
claimed_step_goes_on = refl

request_to_cancel_changes_nothing_of_a_claimed_step : row site (after_all site claimed (AskCancel (Some step_one) (says REASON_FOR_CANCELLATION Lt (codes "stop") ∷ []) ∷ [])) step_one ≡ row site claimed step_one
unfolding moment day_number days_of_month field is_date is_time date_number second_of_day microsecond_of offset_of signed_offset
request_to_cancel_changes_nothing_of_a_claimed_step = refl

-- who may set what, and when
sets_are_refused : replies site one_step (update mine (label ∷ []) ∷ Set (Some step_one) Malformed (label ∷ []) ∷ Set (Some step_two) Absent [] ∷ Set (Some step_one) Absent (priority (codes "HIGH") ∷ []) ∷ claim mine
    ∷ Set (Some step_one) Absent (label ∷ []) ∷ update other (label ∷ []) ∷ update mine (scheduled ∷ []) ∷ update mine (says SOP_INSTANCE_UID Ui (codes "1.2") ∷ [])
    ∷ update mine (says PROCEDURE_STEP_LABEL Lo [] ∷ []) ∷ update mine (priority (codes "URGENT") ∷ []) ∷ update mine (start ∷ []) ∷ update mine [] ∷ [])
    ≡ answered (NotInProgress ∷ NotInProgress ∷ UnknownInstance ∷ Success ∷ Success ∷ WrongTransactionUid ∷ WrongTransactionUid ∷ InvalidAttributeValue ∷ InvalidAttributeValue ∷ MissingAttributeValue ∷ InvalidAttributeValue ∷ Success ∷ Success ∷ [])
unfolding moment day_number days_of_month field is_date is_time date_number second_of_day microsecond_of offset_of signed_offset
sets_are_refused = refl

-- a change names a state, and is of a step
changes_are_read : asked {A = Unit {0}} (pos 0) (operations.Action (Some step_one) 1) (says TRANSACTION_UID Ui (codes "2.1" ++ 0 ∷ []) ∷ says PROCEDURE_STEP_STATE Cs (codes "IN PROGRESS ") ∷ []) ≡ Ok (Do (claim mine))
unfolding moment day_number days_of_month field is_date is_time date_number second_of_day microsecond_of offset_of signed_offset
changes_are_read = refl

change_to_no_state_is_refused : asked {A = Unit {0}} (pos 0) (operations.Action (Some step_one) 1) (says PROCEDURE_STEP_STATE Cs (codes "DONE") ∷ []) ≡ Err InvalidArgumentValue
unfolding moment day_number days_of_month field is_date is_time date_number second_of_day microsecond_of offset_of signed_offset
change_to_no_state_is_refused = refl

change_of_all_steps_is_refused : asked {A = Unit {0}} (pos 0) (operations.Action (Some (text_of GlobalSubscription)) 1) [] ≡ Err ActionNotAppropriate
unfolding moment day_number days_of_month field is_date is_time date_number second_of_day microsecond_of offset_of signed_offset
change_of_all_steps_is_refused = refl

other_actions_are_refused : asked {A = Unit {0}} (pos 0) (operations.Action (Some step_one) 6) [] ≡ Err NoSuchActionType
unfolding moment day_number days_of_month field is_date is_time date_number second_of_day microsecond_of offset_of signed_offset
other_actions_are_refused = refl
