-- Deletion Locks of which the last run granted none (PS3.4 CC.2.3), and which a later run would grant.
use Rattle.std.specs.Prelude.{ℕ, List, Bool, false, not, ◌&&◌, Option, None, Some, if◌then◌else◌}
use Rattle.std.specs.declared.alloc.Global.{Global}
use Rattle.ups_life.specs.declared.peer.Peer.{Peer}
use Rattle.ups_life.specs.Watching.{may_lock}
use Rattle.ups_journal.specs.declared.record.Record.{Record}

-- the peer of this title has the right to lock steps now, and had none before
abbrev pub gains_lock : List Peer → List Peer → List ℕ → Bool
gains_lock was now title = may_lock now title && not (may_lock was title)

abbrev pub asks_lock : Option Bool → Bool
asks_lock None = false
asks_lock (Some lock) = lock

abbrev pub is_gainer : List Peer → List Peer → Option (List ℕ) → Bool
is_gainer was now None = false
is_gainer was now (Some title) = gains_lock was now title

-- a subscription that asks for a lock which was not granted, and would be now
abbrev pub is_ungranted : List Peer → List Peer → Record Global → Bool
is_ungranted was now r = asks_lock r.request.deletion_lock && is_gainer was now r.request.receiver

-- the record with the lock that was granted: without one that was not
abbrev pub as_granted : List Peer → List Peer → Record Global → Record Global
as_granted was now r = if is_ungranted was now r then record r { request = record r.request { deletion_lock = Some false } } else r
