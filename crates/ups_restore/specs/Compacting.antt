-- How a manager takes over the compacted history of another. Histories here are as they are shown, oldest entry first.
use Rattle.std.specs.Prelude.{◌≡◌, ℕ, ◌-◌, Bool, true, false, List, [], ◌∷◌, ◌++◌, length, map, take, Option, None, Some}
use Rattle.ups_life.specs.declared.entry.Entry.{Entry}
use Rattle.ups_life.specs.declared.peer.Peer.{Peer}
use Rattle.ups_life.specs.declared.request.Request.{Request}
use Rattle.ups_life.specs.declared.request.Request.TheVariants.{Ack, Sweep}
use Rattle.ups_life.specs.Settings.{Settings}
use Rattle.ups_life.specs.Steps.{past}
use Rattle.ups_life.specs.Events.{events, acked}
use Rattle.ups_journal.specs.declared.record.Record.{Record}
use Rattle.ups_journal.specs.Columns.{recorded}
use Rattle.ups_compact.specs.Compacting.{above_zero}
use Rattle.ups_restore.specs.declared.fault.CompactFault.{CompactFault}
use Rattle.ups_restore.specs.declared.fault.CompactFault.TheVariants as faults
use Rattle.ups_restore.specs.Replaying.{IsWant}

abbrev pub is_sweep : {A : Type 0} → Request A → Bool
is_sweep Sweep = true
is_sweep request = false

-- how many events w has not acknowledged, superseded ones too
abbrev pub unacknowledged : {A : Type 0} → Settings → List (Entry A) → List ℕ → ℕ
unacknowledged s history w = length (events s (past history) w) - acked (past history) w

-- the number that w is to acknowledge after the history `after`, which replaces the history `before`: after it as many of its events
-- as before are not acknowledged
abbrev pub known_behind : {A : Type 0} → Settings → List (Entry A) → List (Entry A) → List ℕ → Option ℕ
known_behind s before after w = above_zero (length (events s (past after) w) - unacknowledged s before w)

-- the acknowledgement by w up to a number, if there is one
abbrev pub ack_of : {A : Type 0} → ℕ → ℕ → List ℕ → Option ℕ → List (Entry A)
ack_of caller moment w None = []
ack_of caller moment w (Some n) = record { caller = caller; ae = w; moment = moment; request = Ack n } ∷ []

-- the acknowledgements by peers, in their order
abbrev pub acks : {A : Type 0} → ℕ → ℕ → (List ℕ → Option ℕ) → List Peer → List (Entry A)
acks caller moment number [] = []
acks caller moment number (p ∷ ps) = ack_of caller moment p.ae (number p.ae) ++ acks caller moment number ps

-- the records of the first entries of a history, `count` of them, were put after the records that were there
abbrev pub HasPut : {A : Type 0} → List (Record A) → List (Entry A) → List (Record A) → Type 0
HasPut before history after = (count : ℕ) × (after ≡ before ++ map recorded (take count history))

-- no entry was refused, except for lack of memory or room
abbrev pub IsNoRefusal : CompactFault → Type 0
IsNoRefusal (faults.Entering refusal) = IsWant refusal
IsNoRefusal fault = Unit {0}
