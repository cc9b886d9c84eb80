-- What a request asks, where memory ran out for it.
use Rattle.std.proofs.Common.{◌≡◌, ℕ, ℤ, Bool, true, false, cond, List, [], ap, sym, ◌∙◌, subst, Option, None, Some, Result, Ok, Err, ◌⊎◌, inl, inr, refl}
use Rattle.ups_dataset.specs.declared.dictionary.TheConstants.{PROCEDURE_STEP_STATE, TRANSACTION_UID, DELETION_LOCK, RECEIVING_AE}
use Rattle.ups_dataset.specs.Data.{El, element_at}
use Rattle.ups_dimse.specs.declared.command.Operation.{Operation}
use Rattle.ups_dimse.specs.declared.command.Operation.TheVariants as operations
use Rattle.ups_match.specs.declared.fault.KeyFault.{KeyFault}
use Rattle.ups_match.specs.Matching.{KeySet, fault_of, is_match}
use Rattle.ups_cycle.specs.declared.state.StepState.{StepState}
use Rattle.ups_life.specs.declared.request.Transaction.{Transaction}
use Rattle.ups_life.specs.declared.request.Ask.{Ask}
use Rattle.ups_life.specs.declared.request.Ask.TheVariants.{Do}
use Rattle.ups_life.specs.declared.request.Request.TheVariants.{AskCancel}
use Rattle.ups_cycle.specs.declared.status.Status.{Status}
use Rattle.ups_cycle.specs.declared.status.Status.TheVariants.{NoSuchArgument, ResourceLimitation, NoSuchActionType, ActionNotAppropriate}
use Rattle.ups_life.specs.declared.watching.Place.{Place}
use Rattle.ups_life.specs.declared.watching.Target.{Target}
use Rattle.ups_life.specs.declared.watching.Target.TheVariants.{Single, Global, Filtered}
use Rattle.ups_life.specs.Instances.{step_in}
use Rattle.ups_life.specs.Subscribing.{named_receiver, named_lock, filter_keys, filtered, target_of, subscribed_to, subscribed, place_of, unsubscribed_at, unsubscribed, suspended_for, suspended}
use Rattle.ups_life.specs.Asking.{asked, created, changed, changed_to, asked_cancel, finds, named_state, transaction_of}
use Rattle.ups_session.specs.Dispatch.{answered_at_once, asking}
use Rattle.ups_session.specs.Rules.{dispatched, question}

-- the number that tells of out of memory
abbrev lacking : (A : Type 0) → Result (Ask A) Status
lacking A = Err ResourceLimitation

abbrev refusing : (A : Type 0) → Status → Result (Ask A) Status
refusing A status = Err status

abbrev asking_for : {A : Type 0} → Ask A → Result (Ask A) Status
asking_for ask = Ok ask

no_action_not : (A : Type 0) → refusing A NoSuchActionType ≡ lacking A → ⊥
no_action_not A e = cc

not_appropriate_not : (A : Type 0) → refusing A ActionNotAppropriate ≡ lacking A → ⊥
not_appropriate_not A e = cc

either_not : {X : Type 0} {z : X} (b : Bool) (x y : X) → (x ≡ z → ⊥) → (y ≡ z → ⊥) → cond b x y ≡ z → ⊥
either_not true x y p q e = p e
either_not false x y p q e = q e

abbrev asking_cancel : (A : Type 0) → Option (List ℕ) → List El → Result (Ask A) Status
asking_cancel A step set = Ok (Do (AskCancel step set))

created_not : (A : Type 0) (step : Option (List ℕ)) (set : List El) → created {A = A} step set ≡ lacking A → ⊥
created_not A None set e = cc
created_not A (Some step) set e = cc

changed_to_not : (A : Type 0) (step : Option (List ℕ)) (state : Option StepState) (transaction : Transaction) → changed_to {A = A} step state transaction ≡ lacking A → ⊥
changed_to_not A step None transaction e = cc
changed_to_not A step (Some state) transaction e = cc

cancel_not : (A : Type 0) (step : Option (List ℕ)) (set : List El) → asking_cancel A step set ≡ lacking A → ⊥
cancel_not A step set e = cc

finds_not : (A : Type 0) (offset : ℤ) (set : List El) (fault : Option KeyFault) → finds {A = A} offset set fault ≡ lacking A → ⊥
finds_not A offset set None e = cc
finds_not A offset set (Some fault) e = cc

-- nor what a subscription is to

abbrev no_target : (A : Type 0) → Status → Result (Target A) Status
no_target A status = Err status

abbrev a_target : {A : Type 0} → Target A → Result (Target A) Status
a_target target = Ok target

target_not : {A : Type 0} (target : Target A) → a_target target ≡ no_target A ResourceLimitation → ⊥
target_not target e = cc

no_argument_not : (A : Type 0) → no_target A NoSuchArgument ≡ no_target A ResourceLimitation → ⊥
no_argument_not A e = cc

filtered_not : (A : Type 0) (keys : KeySet) (fault : Option KeyFault) → filtered {A = A} keys fault ≡ no_target A ResourceLimitation → ⊥
filtered_not A keys (Some fault) e = cc
filtered_not A keys None e = either_not (is_match keys []) _ _ (no_argument_not A) (target_not (Filtered keys)) e

target_of_not : (A : Type 0) (offset : ℤ) (instance : Option (List ℕ)) (set : List El) → target_of {A = A} offset instance set ≡ no_target A ResourceLimitation → ⊥
target_of_not A offset instance set e =
    either_not _ _ _ (target_not Global)
    (either_not _ _ _ (filtered_not A (record { attributes = filter_keys set; offset = offset }) (fault_of offset (filter_keys set))) (target_not (Single (step_in instance)))) e

subscribed_to_not : (A : Type 0) (target : Result (Target A) Status) (receiver : Option (List ℕ)) (lock : Option Bool) → (target ≡ no_target A ResourceLimitation → ⊥) → subscribed_to target receiver lock ≡ lacking A → ⊥
subscribed_to_not A target None lock some e = cc
subscribed_to_not A target (Some receiver) None some e = cc
subscribed_to_not A (Err status) (Some receiver) (Some lock) some e = let lost : status ≡ ResourceLimitation = cc in some (ap (no_target A) lost)
subscribed_to_not A (Ok target) (Some receiver) (Some lock) some e = cc

subscribed_not : (A : Type 0) (offset : ℤ) (instance : Option (List ℕ)) (set : List El) → subscribed {A = A} offset instance set ≡ lacking A → ⊥
unfolding subscribed
subscribed_not A offset instance set e =
    subscribed_to_not A (target_of offset instance set) (named_receiver (element_at RECEIVING_AE set)) (named_lock (element_at DELETION_LOCK set)) (target_of_not A offset instance set) e

unsubscribed_at_not : (A : Type 0) (place : Place) (receiver : Option (List ℕ)) → unsubscribed_at {A = A} place receiver ≡ lacking A → ⊥
unsubscribed_at_not A place None e = cc
unsubscribed_at_not A place (Some receiver) e = cc

unsubscribed_not : (A : Type 0) (instance : Option (List ℕ)) (set : List El) → unsubscribed {A = A} instance set ≡ lacking A → ⊥
unfolding unsubscribed
unsubscribed_not A instance set e = unsubscribed_at_not A (place_of instance) (named_receiver (element_at RECEIVING_AE set)) e

suspended_for_not : (A : Type 0) (receiver : Option (List ℕ)) → suspended_for {A = A} receiver ≡ lacking A → ⊥
suspended_for_not A None e = cc
suspended_for_not A (Some receiver) e = cc

suspended_not : (A : Type 0) (instance : Option (List ℕ)) (set : List El) → suspended {A = A} instance set ≡ lacking A → ⊥
unfolding suspended
suspended_not A instance set e = either_not _ _ _ (suspended_for_not A (named_receiver (element_at RECEIVING_AE set))) (not_appropriate_not A) e

-- no message is refused with it
asked_not : {A : Type 0} (offset : ℤ) (operation : Operation A) (set : List El) → asked offset operation set ≡ lacking A → ⊥
asked_not {A} offset (operations.Create instance) set e = created_not A (step_in instance) set e
asked_not offset (operations.Get instance told_calls) set e = cc
asked_not offset (operations.Set instance) set e = cc
asked_not {A} offset (operations.Action instance action) set e =
    either_not _ (changed instance set) _
    (either_not _ _ (changed_to (step_in instance) (named_state (element_at PROCEDURE_STEP_STATE set)) (transaction_of (element_at TRANSACTION_UID set))) (not_appropriate_not A)
    (changed_to_not A (step_in instance) (named_state (element_at PROCEDURE_STEP_STATE set)) (transaction_of (element_at TRANSACTION_UID set))))
    (either_not _ (asked_cancel instance set) _ (either_not _ _ _ (not_appropriate_not A) (cancel_not A (step_in instance) set))
    (either_not _ (subscribed offset instance set) _ (subscribed_not A offset instance set)
    (either_not _ (unsubscribed instance set) _ (unsubscribed_not A instance set)
    (either_not _ (suspended instance set) _ (suspended_not A instance set) (no_action_not A))))) e
asked_not {A} offset (operations.Find priority) set e = finds_not A offset set (fault_of offset set) e
asked_not offset operations.Echo set e = cc
asked_not offset (operations.EventReport instance event) set e = cc

asks : {A : Type 0} (offset : ℤ) (operation : Operation A) (set : List El) (ask : Ask A) → (operation ≡ operations.Echo → ⊥) → asked offset operation set ≡ Ok ask → dispatched offset operation set ≡ asking ask
asks offset (operations.Create instance) set ask other e = ap question e
asks offset (operations.Get instance told_calls) set ask other e = ap question e
asks offset (operations.Set instance) set ask other e = ap question e
asks offset (operations.Action instance action) set ask other e = ap question e
asks offset (operations.Find priority) set ask other e = ap question e
asks offset operations.Echo set ask other e = absurd (other refl)
asks offset (operations.EventReport instance event) set ask other e = ap question e

-- where memory ran out, something is asked
pub asks_lacking : {A : Type 0} (offset same : ℤ) (operation : Operation A) (set : List El) (status : Status) → same ≡ offset → (operation ≡ operations.Echo → ⊥) → status ≡ ResourceLimitation
    → ((status ≡ ResourceLimitation) × (ask : Ask A) × (asked same operation set ≡ Ok ask)) ⊎ (asked same operation set ≡ refusing A status) → (ask : Ask A) × (dispatched offset operation set ≡ asking ask)
asks_lacking {A} offset same operation set status is_same other lost (inl (is, ask, e)) =
    let asks_it : asked offset operation set ≡ asking_for ask = subst (λ (z : ℤ). asked z operation set ≡ asking_for ask) is_same e in
    (ask, asks offset operation set ask other asks_it)
asks_lacking {A} offset same operation set status is_same other lost (inr e) = absurd (asked_not same operation set (e ∙ ap (refusing A) lost))

-- what is refused for another reason is answered with that
refused : {A : Type 0} (offset : ℤ) (operation : Operation A) (set : List El) (status : Status) → (operation ≡ operations.Echo → ⊥) → asked offset operation set ≡ refusing A status → answered_at_once status ≡ dispatched offset operation set
refused offset (operations.Create instance) set status other e = sym (ap question e)
refused offset (operations.Get instance told_calls) set status other e = sym (ap question e)
refused offset (operations.Set instance) set status other e = sym (ap question e)
refused offset (operations.Action instance action) set status other e = sym (ap question e)
refused offset (operations.Find priority) set status other e = sym (ap question e)
refused offset operations.Echo set status other e = absurd (other refl)
refused offset (operations.EventReport instance event) set status other e = sym (ap question e)

pub answers_refused : {A : Type 0} (offset same : ℤ) (operation : Operation A) (set : List El) (status : Status) → same ≡ offset → (operation ≡ operations.Echo → ⊥) → (status ≡ ResourceLimitation → ⊥)
    → ((status ≡ ResourceLimitation) × (ask : Ask A) × (asked same operation set ≡ Ok ask)) ⊎ (asked same operation set ≡ refusing A status) → answered_at_once status ≡ dispatched offset operation set
answers_refused offset same operation set status is_same other kept (inl (is, ask, e)) = absurd (kept is)
answers_refused {A} offset same operation set status is_same other kept (inr e) =
    refused offset operation set status other (subst (λ (z : ℤ). asked z operation set ≡ refusing A status) is_same e)
