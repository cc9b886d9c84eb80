-- What a message asks (PS3.4 CC.2.1 to CC.2.3, CC.2.5 to CC.2.8).
use Rattle.std.specs.Prelude.{ℕ, ℤ, Bool, ◌&&◌, ◌==◌, nat_lt, nat_le, List, length, Option, None, Some, Result, Ok, Err, if◌then◌else◌}
use Rattle.std.specs.List.{list_all, slice_split}
use Rattle.ups_pdu.specs.Padding.{without_padding}
use Rattle.ups_pdu.specs.Identifier.{is_component, is_dot}
use Rattle.ups_dataset.specs.declared.dictionary.TheConstants.{PROCEDURE_STEP_STATE, TRANSACTION_UID}
use Rattle.ups_dataset.specs.Data.{Data, bytes, items, El, element_at}
use Rattle.ups_dimse.specs.declared.command.Operation.{Operation}
use Rattle.ups_dimse.specs.declared.command.Operation.TheVariants as operations
use Rattle.ups_match.specs.declared.fault.KeyFault.{KeyFault}
use Rattle.ups_match.specs.Matching.{fault_of}
use Rattle.ups_cycle.specs.declared.state.StepState.{StepState}
use Rattle.ups_life.specs.declared.request.Transaction.{Transaction}
use Rattle.ups_life.specs.declared.request.Transaction.TheVariants.{Absent, Malformed, Proper}
use Rattle.ups_life.specs.declared.request.Request.TheVariants.{Create, Change, AskCancel, Set}
use Rattle.ups_life.specs.declared.request.Ask.{Ask}
use Rattle.ups_life.specs.declared.request.Ask.TheVariants.{Do, Get, Find}
use Rattle.ups_cycle.specs.declared.status.Status.{Status}
use Rattle.ups_cycle.specs.declared.status.Status.TheVariants.{InvalidArgumentValue, InvalidObjectInstance, NoSuchActionType, UnrecognizedOperation, IdentifierMismatch, ActionNotAppropriate}
use Rattle.ups_cycle.specs.States.{state_of}
use Rattle.ups_life.specs.Instances.{is_subscription, step_in}
use Rattle.ups_life.specs.Subscribing.{subscribed, unsubscribed, suspended}

-- a UID: 1 to 64 bytes, components of digits with dots between (PS3.5 section 9.1)
abbrev pub is_uid : List ℕ → Bool
is_uid text = nat_lt 0 (length text) && nat_le (length text) 64 && list_all is_component (slice_split is_dot text)

-- the Transaction UID in a text; and in a value, without its padding
abbrev pub transaction_in : List ℕ → Transaction
transaction_in text = if length text == 0 then Absent else (if is_uid text then Proper text else Malformed)

abbrev pub transaction_value : Data → Transaction
transaction_value (bytes b) = transaction_in (without_padding b)
transaction_value (items is) = Malformed

abbrev pub transaction_of : Option El → Transaction
transaction_of None = Absent
transaction_of (Some e) = transaction_value e.value

-- the state that an attribute names
abbrev pub state_value : Data → Option StepState
state_value (bytes b) = state_of b
state_value (items is) = None

abbrev pub named_state : Option El → Option StepState
named_state None = None
named_state (Some e) = state_value e.value

-- an N-CREATE has to give the UID of the new step (PS3.4 CC.2.5)
abbrev pub created : {A : Type 0} → Option (List ℕ) → List El → Result (Ask A) Status
created None attributes = Err InvalidObjectInstance
created (Some step) attributes = Ok (Do (Create step attributes))

abbrev pub changed_to : {A : Type 0} → Option (List ℕ) → Option StepState → Transaction → Result (Ask A) Status
changed_to step None transaction = Err InvalidArgumentValue
changed_to step (Some state) transaction = Ok (Do (Change step state transaction))

-- a change of state names a step, not a global subscription, and one of the four states (PS3.4 table CC.2.1-1)
abbrev pub changed : {A : Type 0} → Option (List ℕ) → List El → Result (Ask A) Status
changed instance attributes = if is_subscription instance then Err ActionNotAppropriate else changed_to (step_in instance) (named_state (element_at PROCEDURE_STEP_STATE attributes)) (transaction_of (element_at TRANSACTION_UID attributes))

abbrev pub asked_cancel : {A : Type 0} → Option (List ℕ) → List El → Result (Ask A) Status
asked_cancel instance attributes = if is_subscription instance then Err ActionNotAppropriate else Ok (Do (AskCancel (step_in instance) attributes))

-- the action types (PS3.4 table CC.2-1): 1 Change UPS State, 2 Request UPS Cancel, 3 Subscribe to Receive UPS Event
-- Reports, 4 Unsubscribe from Receiving UPS Event Reports, 5 Suspend Global Subscription; there are no others
abbrev pub acted : {A : Type 0} → ℤ → Option (List ℕ) → ℕ → List El → Result (Ask A) Status
acted offset instance action attributes =
    if action == 1 then changed instance attributes else (
    if action == 2 then asked_cancel instance attributes else (
    if action == 3 then subscribed offset instance attributes else (
    if action == 4 then unsubscribed instance attributes else (
    if action == 5 then suspended instance attributes else Err NoSuchActionType))))

-- a C-FIND asks for the worklist, if its keys can be read (PS3.4 section C.4.1.1.4)
abbrev pub finds : {A : Type 0} → ℤ → List El → Option KeyFault → Result (Ask A) Status
finds offset attributes None = Ok (Find (record { attributes = attributes; offset = offset }))
finds offset attributes (Some fault) = Err IdentifierMismatch

-- What a message asks; `offset`, in minutes east of UTC, is that of each DT in a key that gives none. A C-ECHO does not
-- belong to the UPS SOP classes, and only the server sends an N-EVENT-REPORT: they ask nothing about a step.
abbrev pub asked : {A : Type 0} → ℤ → Operation A → List El → Result (Ask A) Status
asked offset (operations.Create instance) attributes = created (step_in instance) attributes
asked offset (operations.Get instance listed) attributes = Ok (Get (step_in instance) listed)
asked offset (operations.Set instance) attributes = Ok (Do (Set (step_in instance) (transaction_of (element_at TRANSACTION_UID attributes)) attributes))
asked offset (operations.Action instance action) attributes = acted offset instance action attributes
asked offset (operations.Find priority) attributes = finds offset attributes (fault_of offset attributes)
asked offset operations.Echo attributes = Err UnrecognizedOperation
asked offset (operations.EventReport instance event) attributes = Err UnrecognizedOperation
