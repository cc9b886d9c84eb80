-- Records whose numbers of events are made less by the shifts of watchers.
use Rattle.std.specs.Prelude.{ℕ, ◌-◌, List, Option, None, Some}
use Rattle.ups_journal.specs.declared.record.Columns.{Columns}
use Rattle.ups_journal.specs.declared.record.Record.{Record}

abbrev pub event_less : ℕ → Option ℕ → Option ℕ
event_less less None = None
event_less less (Some n) = Some (n - less)

-- the columns with the number of the event made less; that of an acknowledgement alone has one
abbrev pub columns_less : {A : Type 0} → ℕ → Columns A → Columns A
columns_less less columns = record {
  operation = columns.operation;
  instance = columns.instance;
  transaction_uid = columns.transaction_uid;
  state = columns.state;
  receiver = columns.receiver;
  deletion_lock = columns.deletion_lock;
  event = event_less less columns.event;
  utc_offset = columns.utc_offset;
  attributes = columns.attributes;
}

-- THE RECORD MADE LESS: its event has a number that is less by the shift of who asked
abbrev pub lessened : {A : Type 0} → (List ℕ → ℕ) → Record A → Record A
lessened less r = record { caller = r.caller; title = r.title; moment = r.moment; request = columns_less (less r.title) r.request }
