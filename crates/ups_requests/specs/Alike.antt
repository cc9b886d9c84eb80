-- What two records have in common.
use Rattle.std.specs.Prelude.{◌≡◌}
use Rattle.ups_journal.specs.declared.record.Columns.{Columns}

-- the same operation, instance, Transaction UID and state
pub record AreOnOneStep {A : Type 0} (a b : Columns A) : Type 0 where
  pub operation : a.operation ≡ b.operation
  pub instance : a.instance ≡ b.instance
  pub transaction_uid : a.transaction_uid ≡ b.transaction_uid
  pub state : a.state ≡ b.state

-- the same Receiving AE, Deletion Lock, event number, offset and attributes
pub record AreForOneWatcher {A : Type 0} (a b : Columns A) : Type 0 where
  pub receiver : a.receiver ≡ b.receiver
  pub deletion_lock : a.deletion_lock ≡ b.deletion_lock
  pub event : a.event ≡ b.event
  pub utc_offset : a.utc_offset ≡ b.utc_offset
  pub attributes : a.attributes ≡ b.attributes
