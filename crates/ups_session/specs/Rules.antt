-- The requests that a presentation context accepts, and what they ask (PS3.4 CC.2, PS3.7 sections 9 and 10).
use Rattle.std.specs.Prelude.{◌≡◌, ◌⊎◌, ◌==◌, ℕ, ℤ, Bool, true, false, ◌&&◌, ◌||◌, nat_le, List, [], Option, None, Some, Result, Ok, Err, MatchBool}
use Rattle.std.specs.Str.{bytes_eq}
use Rattle.ups_pdu.specs.declared.registered.RegisteredUid.TheVariants as registered
use Rattle.ups_pdu.specs.Registered.{text_of}
use Rattle.ups_pdu.specs.declared.syntax.TransferSyntax.{TransferSyntax}
use Rattle.ups_dataset.specs.Data.{El}
use Rattle.ups_dataset.specs.Spelling.{SpellsSet}
use Rattle.ups_dimse.specs.declared.command.RequestCommand.{RequestCommand}
use Rattle.ups_dimse.specs.declared.command.Operation.{Operation}
use Rattle.ups_dimse.specs.declared.command.Operation.TheVariants as operations
use Rattle.ups_assoc.specs.declared.sop_class.SopClass.{SopClass}
use Rattle.ups_assoc.specs.declared.sop_class.SopClass.TheVariants.{Verification, UpsPush, UpsPull, UpsWatch, UpsEvent}
use Rattle.ups_assoc.specs.declared.negotiating.AcceptedContext.{AcceptedContext}
use Rattle.ups_assoc.specs.Classes.{uid_of}
use Rattle.ups_life.specs.declared.request.Ask.{Ask}
use Rattle.ups_cycle.specs.declared.status.Status.{Status}
use Rattle.ups_cycle.specs.declared.status.Status.TheVariants.{Success, UnrecognizedOperation, NoSuchSopClass, NoSuchActionType, ProcessingFailure, UnableToProcess}
use Rattle.ups_life.specs.Asking.{asked}
use Rattle.ups_session.specs.Dispatch.{DispatchView, answered_at_once, asking}

-- the operations of each SOP class (PS3.4 annexes A and CC.2)
abbrev pub supports_operation : {A : Type 0} → SopClass → Operation A → Bool
supports_operation Verification operations.Echo = true
supports_operation UpsPush (operations.Create instance) = true
supports_operation UpsPush (operations.Get instance attributes) = true
supports_operation UpsPush (operations.Action instance action) = true
supports_operation UpsPull (operations.Get instance attributes) = true
supports_operation UpsPull (operations.Set instance) = true
supports_operation UpsPull (operations.Action instance action) = true
supports_operation UpsPull (operations.Find priority) = true
supports_operation UpsWatch (operations.Get instance attributes) = true
supports_operation UpsWatch (operations.Action instance action) = true
supports_operation UpsWatch (operations.Find priority) = true
supports_operation class operation = false

-- the action types of each SOP class (PS3.4 table CC.2-1): 1 is Change UPS State, 2 is Request UPS Cancel, and 3 to 5
-- are those of subscriptions
abbrev pub has_action_type : SopClass → ℕ → Bool
has_action_type Verification action = false
has_action_type UpsPush action = action == 2
has_action_type UpsPull action = action == 1
has_action_type UpsWatch action = nat_le 2 action && nat_le action 5
has_action_type UpsEvent action = false

-- whether the class has the action type of an N-ACTION; true of any other operation
abbrev pub supports_action_type : {A : Type 0} → SopClass → Operation A → Bool
supports_action_type class (operations.Action instance action) = has_action_type class action
supports_action_type class operation = true

abbrev pub is_class : List ℕ → Option (List ℕ) → Bool
is_class uid None = false
is_class uid (Some class) = bytes_eq class uid

-- Whether a request names a SOP class that it may: that of its presentation context, or the UPS Push class, of which
-- each step is an instance whatever the context (PS3.4 CC.3.1). A C-ECHO may name only that of its context.
abbrev pub accepts_sop_class : {A : Type 0} → SopClass → Operation A → Option (List ℕ) → Bool
accepts_sop_class class operations.Echo uid = is_class (uid_of class) uid
accepts_sop_class class operation uid = is_class (uid_of class) uid || is_class (text_of registered.UpsPush) uid

-- the data set of a message; a message without one has an empty one
abbrev pub HasSet : TransferSyntax → Option (List ℕ) → List El → Type 0
HasSet syntax None set = set ≡ []
HasSet syntax (Some body) set = SpellsSet syntax body set

-- the status of a request whose data set cannot be read: a C-FIND has its own (PS3.7 annex C, PS3.4 section
-- C.4.1.1.4)
abbrev pub unreadable_status : {A : Type 0} → Operation A → Status
unreadable_status (operations.Find priority) = UnableToProcess
unreadable_status operation = ProcessingFailure

-- A C-ECHO is answered at once; any other request asks something, or is refused. The offset is that of local time
-- from UTC, in minutes.
abbrev pub question : {A : Type 0} → Result (Ask A) Status → DispatchView A
question (Ok ask) = asking ask
question (Err status) = answered_at_once status

abbrev pub dispatched : {A : Type 0} → ℤ → Operation A → List El → DispatchView A
dispatched offset operations.Echo set = answered_at_once Success
dispatched offset operation set = question (asked offset operation set)

-- the outcome of a request, by what its data set is, if it is one
abbrev pub DispatchesBySet : {A : Type 0} → ℤ → TransferSyntax → Operation A → Option (List ℕ) → DispatchView A → Type 0
DispatchesBySet offset syntax operation body dispatch_view =
    ((set : List El) × HasSet syntax body set × (dispatch_view ≡ dispatched offset operation set))
    ⊎ (((set : List El) → HasSet syntax body set → ⊥) × (dispatch_view ≡ answered_at_once (unreadable_status operation)))

-- The outcome of a request with its data set on a presentation context. It is refused, in this order, if the
-- context's SOP class doesn't support the operation (0211), if it names another SOP class (0118), if it is an
-- N-ACTION of a type that the class doesn't have (0123), and if its data set can't be read (0110, or C000 for a
-- C-FIND).
abbrev pub Dispatches : {A : Type 0} → ℤ → AcceptedContext → RequestCommand A → Option (List ℕ) → DispatchView A → Type 0
Dispatches offset context request body dispatch_view =
    MatchBool (supports_operation context.sop_class request.operation) (
    MatchBool (accepts_sop_class context.sop_class request.operation request.sop_class) (
    MatchBool (supports_action_type context.sop_class request.operation)
    (DispatchesBySet offset context.transfer_syntax request.operation body dispatch_view)
    (dispatch_view ≡ answered_at_once NoSuchActionType))
    (dispatch_view ≡ answered_at_once NoSuchSopClass))
    (dispatch_view ≡ answered_at_once UnrecognizedOperation)
