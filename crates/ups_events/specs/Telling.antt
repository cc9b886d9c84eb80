-- How the reports of an entry of the history, and acknowledgements, change a queue (PS3.4 CC.2.4).
use Rattle.std.specs.Prelude.{ℕ, ◌+◌, List, [], ◌∷◌}
use Rattle.ups_life.specs.declared.event.Event.{Event}
use Rattle.ups_life.specs.declared.event.Report.{Report}
use Rattle.ups_events.specs.Queue.{QueueView, added, above, queue_at}

-- a queue without its room: the greatest number made, the greatest acknowledged, and the pending events
pub record Line : Type 0 where
  pub made : ℕ
  pub acked : ℕ
  pub events : List Event

abbrev pub line : QueueView → Line
line q = record { made = q.made; acked = q.acked; events = q.events }

-- the queue of the peer at a place, without its room
abbrev pub line_at : List QueueView → ℕ → Line
line_at qs p = line (queue_at qs p)

-- the queue of a watcher that has been told nothing
abbrev pub empty_line : Line
empty_line = record { made = 0; acked = 0; events = [] }

-- a report of the entry at a place, as the event with this number
abbrev pub event_of : ℕ → ℕ → Report → Event
event_of number place x = record { number = number; entry = place; kind = x.kind; step = x.step; state = x.state; readiness = x.readiness }

-- the queue after a report of the entry at a place, which has the next number
abbrev pub one_more : ℕ → Line → Report → Line
one_more place q x = record { made = q.made + 1; acked = q.acked; events = added q.events (event_of (q.made + 1) place x) }

-- the queue after reports of the entry at a place, one after another
abbrev pub told : ℕ → List Report → Line → Line
told place [] q = q
told place (x ∷ xs) q = told place xs (one_more place q x)

-- the queue after the events up to a number are acknowledged
abbrev pub acked_to : ℕ → Line → Line
acked_to upto q = record { made = q.made; acked = upto; events = above upto q.events }
