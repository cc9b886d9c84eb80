-- The limits of a server for its peers, and their defaults.
use Rattle.std.specs.Prelude.{ℕ, zero, suc, ◌-◌, Bool, true, false}

-- the greatest number of associations served at the same time
abbrev pub workers_limit : ℕ
workers_limit = 1022

-- the default for this number
abbrev pub default_workers : ℕ
default_workers = 16

-- the greatest number of PDUs read in one association
abbrev pub turns_limit : ℕ
turns_limit = 1000000

-- the default: the seconds for which an association may be silent between two messages
abbrev pub idle_seconds : ℕ
idle_seconds = 60

-- the default: the seconds that a peer may take for each message that it has begun to send, and to receive each answer
abbrev pub timeout_seconds : ℕ
timeout_seconds = 60

-- the default: the seconds that a watcher may take for each answer and, unless it is quick, to open an association
abbrev pub delivery_seconds : ℕ
delivery_seconds = 5

-- the default: the event reports that may wait for one watcher
abbrev pub default_waiting : ℕ
default_waiting = 500000

-- the number of event reports that are given up of those that wait for a watcher: all if it has no address; otherwise those
-- beyond a limit, where 0 stands for none
abbrev pub excess : Bool → ℕ → ℕ → ℕ
excess false limit waiting = waiting
excess true zero waiting = 0
excess true (suc n) waiting = waiting - suc n

-- the greatest number of records appended to the store before it is compacted
abbrev pub compact_at_limit : ℕ
compact_at_limit = 1000000000

-- the default for this number
abbrev pub default_compact_at : ℕ
default_compact_at = 50000
