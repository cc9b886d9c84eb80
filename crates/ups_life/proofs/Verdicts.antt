-- No verdict is B301: whether a lock is granted is not looked at there. So what is done has Success.
use Rattle.std.proofs.Common.{◌≡◌, ℕ, Bool, true, false, cond, List, [], ◌∷◌, Option, None, Some, refl}
use Rattle.ups_pdu.specs.Padding.{without_padding}
use Rattle.ups_dataset.specs.declared.dictionary.TheConstants.{PROCEDURE_STEP_STATE, TRANSACTION_UID}
use Rattle.ups_dataset.specs.Data.{Data, bytes, items, El, element_at}
use Rattle.ups_life.specs.declared.checks.Checked.{Checked}
use Rattle.ups_life.specs.declared.checks.ValueRule.{ValueRule}
use Rattle.ups_life.specs.declared.request.Request.{Request}
use Rattle.ups_life.specs.declared.request.Request.TheVariants.{Create, Change, AskCancel, Set, Subscribe, Unsubscribe, Suspend, Ack, Sweep, Reserve}
use Rattle.ups_life.specs.declared.request.Transaction.{Transaction}
use Rattle.ups_life.specs.declared.row.Row.{Row}
use Rattle.ups_cycle.specs.declared.state.StepState.{StepState}
use Rattle.ups_cycle.specs.declared.state.StepState.TheVariants.{Scheduled, InProgress, Completed, Canceled}
use Rattle.ups_cycle.specs.declared.status.Status.{Status}
use Rattle.ups_cycle.specs.declared.status.Status.TheVariants.{Success, InvalidAttributeValue, DuplicateSopInstance, DeletionLockNotGranted, WrongTransactionUid, NotInProgress, NotScheduled, FinalStateNotMet}
use Rattle.ups_life.specs.declared.watching.Target.{Target}
use Rattle.ups_life.specs.declared.watching.Target.TheVariants.{Single, Global, Filtered}
use Rattle.ups_life.specs.declared.watching.Place.{Place}
use Rattle.ups_life.specs.declared.watching.Place.TheVariants.{At, Everywhere}
use Rattle.ups_life.specs.CheckedAttributes.{checked_attributes}
use Rattle.ups_life.specs.Values.{allows, says, is_blank, text_status, value_status, element_status, given_status, first_fault, first_given_fault, unless_fault}
use Rattle.ups_cycle.specs.States.{state_text}
use Rattle.ups_life.specs.Verdict.{create_status, is_proper, is_given, is_right, is_performed, is_discontinued, change_status, gives_fixed, set_attributes_status, update_status, if_held, target_status, place_status, verdict}
use Rattle.ups_cycle.specs.Cycle.{claim_status, complete_status, discontinue_status, wrong_status, cancel_status, set_status}
use Rattle.ups_cycle.specs.Statuses.{is_done}

abbrev pub is_without_lock : Status → Bool
is_without_lock DeletionLockNotGranted = true
is_without_lock status = false

-- it doesn't withhold a lock
abbrev pub GrantsAll : Status → Type 0
GrantsAll status = is_without_lock status ≡ false

pub done_is_success : (x : Status) → GrantsAll x → is_done x ≡ true → x ≡ Success
done_is_success Success n h = refl
done_is_success DeletionLockNotGranted n h = absurd cc
done_is_success x n h = absurd cc

either : (b : Bool) (x y : Status) → GrantsAll x → GrantsAll y → GrantsAll (cond b x y)
either true x y n m = n
either false x y n m = m

unless : (x y : Status) → GrantsAll x → GrantsAll y → GrantsAll (unless_fault x y)
unless Success y n m = m
unless x y n m = n

text_grants : (rule : ValueRule) (text : List ℕ) → GrantsAll (text_status rule text)
text_grants rule [] = refl
text_grants rule (b ∷ bs) = either (allows rule (b ∷ bs)) Success InvalidAttributeValue refl refl

value_grants : (rule : ValueRule) (d : Data) → GrantsAll (value_status rule d)
value_grants rule (bytes b) = text_grants rule (without_padding b)
value_grants rule (items is) = refl

element_grants : (rule : ValueRule) (o : Option El) → GrantsAll (element_status rule o)
element_grants rule None = refl
element_grants rule (Some e) = value_grants rule e.value

given_grants : (rule : ValueRule) (o : Option El) → GrantsAll (given_status rule o)
given_grants rule None = refl
given_grants rule (Some e) = value_grants rule e.value

checks_grant : (cs : List Checked) (set : List El) → GrantsAll (first_fault cs set)
checks_grant [] set = refl
checks_grant (c ∷ cs) set = unless (element_status c.rule (element_at c.tag set)) (first_fault cs set) (element_grants c.rule (element_at c.tag set)) (checks_grant cs set)

given_checks_grant : (cs : List Checked) (set : List El) → GrantsAll (first_given_fault cs set)
given_checks_grant [] set = refl
given_checks_grant (c ∷ cs) set = unless (given_status c.rule (element_at c.tag set)) (first_given_fault cs set) (given_grants c.rule (element_at c.tag set)) (given_checks_grant cs set)

create_grants : (set : List El) → GrantsAll (create_status set)
create_grants set =
    either (says (state_text Scheduled) (element_at PROCEDURE_STEP_STATE set)) _ NotScheduled
    (either (is_blank (element_at TRANSACTION_UID set)) (first_fault checked_attributes set) InvalidAttributeValue (checks_grant checked_attributes set) refl) refl

claim_grants : (state : StepState) → GrantsAll (claim_status state)
claim_grants Scheduled = refl
claim_grants InProgress = refl
claim_grants Completed = refl
claim_grants Canceled = refl

complete_grants : (met : Bool) (state : StepState) → GrantsAll (complete_status met state)
complete_grants met Scheduled = refl
complete_grants met InProgress = either met Success FinalStateNotMet refl refl
complete_grants met Completed = refl
complete_grants met Canceled = refl

discontinue_grants : (met : Bool) (state : StepState) → GrantsAll (discontinue_status met state)
discontinue_grants met Scheduled = refl
discontinue_grants met InProgress = either met Success FinalStateNotMet refl refl
discontinue_grants met Completed = refl
discontinue_grants met Canceled = refl

wrong_grants : (proper : Bool) (state : StepState) → GrantsAll (wrong_status proper state)
wrong_grants proper Scheduled = either proper NotInProgress WrongTransactionUid refl refl
wrong_grants proper InProgress = refl
wrong_grants proper Completed = refl
wrong_grants proper Canceled = refl

cancel_grants : (state : StepState) → GrantsAll (cancel_status state)
cancel_grants Scheduled = refl
cancel_grants InProgress = refl
cancel_grants Completed = refl
cancel_grants Canceled = refl

set_grants : (right given : Bool) (state : StepState) → GrantsAll (set_status right given state)
set_grants right given Scheduled = either given NotInProgress Success refl refl
set_grants right given InProgress = either right Success WrongTransactionUid refl refl
set_grants right given Completed = refl
set_grants right given Canceled = refl

change_grants : {A : Type 0} (r : Row A) (state : StepState) (t : Transaction) → GrantsAll (change_status r state t)
change_grants r Scheduled t = refl
change_grants r InProgress t = either (is_proper t) (claim_status r.state) WrongTransactionUid (claim_grants r.state) refl
change_grants r Completed t = either (is_right r.transaction t) _ _ (complete_grants (is_performed r.attributes) r.state) (wrong_grants (is_proper t) r.state)
change_grants r Canceled t = either (is_right r.transaction t) _ _ (discontinue_grants (is_discontinued r.attributes) r.state) (wrong_grants (is_proper t) r.state)

update_grants : {A : Type 0} (r : Row A) (t : Transaction) (set : List El) → GrantsAll (update_status r t set)
update_grants r t set =
    unless (set_status (is_right r.transaction t) (is_given t) r.state) (set_attributes_status set) (set_grants (is_right r.transaction t) (is_given t) r.state)
    (either (gives_fixed set) InvalidAttributeValue (first_given_fault checked_attributes set) refl (given_checks_grant checked_attributes set))

held_grants : {A : Type 0} (row : Option (Row A)) (decide : Row A → Status) → ((r : Row A) → GrantsAll (decide r)) → GrantsAll (if_held row decide)
held_grants None decide h = refl
held_grants (Some r) decide h = h r

target_grants : {A : Type 0} (row : Option (Row A)) (target : Target A) → GrantsAll (target_status row target)
target_grants row (Single step) = held_grants row (λ r. Success) (λ r. refl)
target_grants row Global = refl
target_grants row (Filtered keys) = refl

place_grants : {A : Type 0} (row : Option (Row A)) (place : Place) → GrantsAll (place_status row place)
place_grants row (At step) = held_grants row (λ r. Success) (λ r. refl)
place_grants row Everywhere = refl

pub verdict_grants_all : {A : Type 0} (row : Option (Row A)) (used : Bool) (r : Request A) → GrantsAll (verdict row used r)
verdict_grants_all row used (Create step set) = either used DuplicateSopInstance (create_status set) refl (create_grants set)
verdict_grants_all row used (Change step state t) = held_grants row (λ r. change_status r state t) (λ r. change_grants r state t)
verdict_grants_all row used (AskCancel step reasons) = held_grants row (λ r. cancel_status r.state) (λ r. cancel_grants r.state)
verdict_grants_all row used (Set step t set) = held_grants row (λ r. update_status r t set) (λ r. update_grants r t set)
verdict_grants_all row used (Subscribe target receiver lock) = target_grants row target
verdict_grants_all row used (Unsubscribe place receiver) = place_grants row place
verdict_grants_all row used (Suspend receiver) = refl
verdict_grants_all row used (Ack upto) = refl
verdict_grants_all row used Sweep = refl
verdict_grants_all row used (Reserve step) = refl
