-- The record of an accepted request, column by column. A column that an operation does not use is empty.
use Rattle.std.specs.Prelude.{ℕ, ℤ, Bool, List, [], Option, None, Some}
use Rattle.ups_pdu.specs.declared.registered.RegisteredUid.TheVariants.{GlobalSubscription, FilteredGlobalSubscription}
use Rattle.ups_pdu.specs.Registered.{text_of}
use Rattle.ups_pdu.specs.declared.syntax.TransferSyntax.TheVariants.{Explicit}
use Rattle.ups_dataset.specs.Written.{written}
use Rattle.ups_cycle.specs.declared.state.StepState.{StepState}
use Rattle.ups_life.specs.declared.request.Request.{Request}
use Rattle.ups_life.specs.declared.request.Request.TheVariants.{Create, Change, AskCancel, Set, Subscribe, Unsubscribe, Suspend, Ack, Sweep, Reserve}
use Rattle.ups_life.specs.declared.request.Transaction.{Transaction}
use Rattle.ups_life.specs.declared.request.Transaction.TheVariants.{Absent, Malformed, Proper}
use Rattle.ups_life.specs.declared.watching.Target.{Target}
use Rattle.ups_life.specs.declared.watching.Target.TheVariants.{Single, Global, Filtered}
use Rattle.ups_life.specs.declared.watching.Place.{Place}
use Rattle.ups_life.specs.declared.watching.Place.TheVariants.{At, Everywhere}
use Rattle.ups_life.specs.declared.entry.Entry.{Entry}
use Rattle.ups_life.specs.History.{receiver_of}
use Rattle.ups_journal.specs.declared.operation.RecordedOperation.{RecordedOperation}
use Rattle.ups_journal.specs.declared.operation.RecordedOperation.TheVariants as operations
use Rattle.ups_journal.specs.declared.record.Columns.{Columns}
use Rattle.ups_journal.specs.declared.record.Record.{Record}

abbrev pub operation_of : {A : Type 0} → Request A → RecordedOperation
operation_of (Create step attributes) = operations.Create
operation_of (Change step state transaction) = operations.Change
operation_of (AskCancel step reasons) = operations.AskCancel
operation_of (Set step transaction attributes) = operations.Set
operation_of (Subscribe target receiver lock) = operations.Subscribe
operation_of (Unsubscribe place receiver) = operations.Unsubscribe
operation_of (Suspend receiver) = operations.Suspend
operation_of (Ack upto) = operations.Acknowledge
operation_of Sweep = operations.Sweep
operation_of (Reserve step) = operations.Reserve

-- the instance: that of a step, or the one that stands for the global subscription without keys or with keys
-- (PS3.4 CC.2.3); the one without keys if all subscriptions of a watcher end, or only its global one
abbrev pub target_instance : {A : Type 0} → Target A → Option (List ℕ)
target_instance (Single step) = step
target_instance Global = Some (text_of GlobalSubscription)
target_instance (Filtered keys) = Some (text_of FilteredGlobalSubscription)

abbrev pub place_instance : Place → Option (List ℕ)
place_instance (At step) = step
place_instance Everywhere = Some (text_of GlobalSubscription)

abbrev pub instance_of : {A : Type 0} → Request A → Option (List ℕ)
instance_of (Create step attributes) = Some step
instance_of (Change step state transaction) = step
instance_of (AskCancel step reasons) = step
instance_of (Set step transaction attributes) = step
instance_of (Subscribe target receiver lock) = target_instance target
instance_of (Unsubscribe place receiver) = place_instance place
instance_of (Suspend receiver) = Some (text_of GlobalSubscription)
instance_of (Reserve step) = Some step
instance_of request = None

-- the Transaction UID; an empty text if it was sent and is malformed
abbrev pub transaction_text : Transaction → Option (List ℕ)
transaction_text Absent = None
transaction_text Malformed = Some []
transaction_text (Proper uid) = Some uid

abbrev pub transaction_cell_of : {A : Type 0} → Request A → Option (List ℕ)
transaction_cell_of (Change step state transaction) = transaction_text transaction
transaction_cell_of (Set step transaction attributes) = transaction_text transaction
transaction_cell_of request = None

-- the state that a step is to have
abbrev pub wanted_state : {A : Type 0} → Request A → Option StepState
wanted_state (Change step state transaction) = Some state
wanted_state request = None

-- the Deletion Lock that is asked for
abbrev pub lock_of : {A : Type 0} → Request A → Option Bool
lock_of (Subscribe target receiver lock) = Some lock
lock_of request = None

-- the number that is acknowledged
abbrev pub acknowledged_in : {A : Type 0} → Request A → Option ℕ
acknowledged_in (Ack upto) = Some upto
acknowledged_in request = None

-- the offset by which the keys of a filter are read, in minutes east of UTC
abbrev pub target_offset : {A : Type 0} → Target A → Option ℤ
target_offset (Filtered keys) = Some keys.offset
target_offset target = None

abbrev pub offset_cell_of : {A : Type 0} → Request A → Option ℤ
offset_cell_of (Subscribe target receiver lock) = target_offset target
offset_cell_of request = None

-- the attributes, or the keys of a filter, in Explicit VR Little Endian
abbrev pub target_set : {A : Type 0} → Target A → Option (List ℕ)
target_set (Filtered keys) = Some (written Explicit keys.attributes)
target_set target = None

abbrev pub set_of : {A : Type 0} → Request A → Option (List ℕ)
set_of (Create step attributes) = Some (written Explicit attributes)
set_of (AskCancel step reasons) = Some (written Explicit reasons)
set_of (Set step transaction attributes) = Some (written Explicit attributes)
set_of (Subscribe target receiver lock) = target_set target
set_of request = None

abbrev pub columns_of : {A : Type 0} → Request A → Columns A
columns_of request = record {
  operation = operation_of request;
  instance = instance_of request;
  transaction_uid = transaction_cell_of request;
  state = wanted_state request;
  receiver = receiver_of request;
  deletion_lock = lock_of request;
  event = acknowledged_in request;
  utc_offset = offset_cell_of request;
  attributes = set_of request;
}

-- THE RECORD OF AN ENTRY
abbrev pub recorded : {A : Type 0} → Entry A → Record A
recorded e = record { caller = e.caller; title = e.ae; moment = e.moment; request = columns_of e.request }
