-- The queue of a watcher as a contract sees it: the events that the watcher has not acknowledged, without each State
-- Report that a later one of the same step supersedes (defined by the profile: PS3.4 CC.2.4 knows no acknowledgement
-- but the response to a report).
use Rattle.std.specs.Prelude.{◌≡◌, ◌≤◌, ◌+◌, ℕ, Bool, not, ◌&&◌, nat_lt, nat_le, List, [], ◌∷◌, ◌++◌, filter, slice_index_or, Option, None, Some, if◌then◌else◌}
use Rattle.ups_life.specs.declared.event.Event.{Event}
use Rattle.ups_life.specs.Events.{is_state_report, is_report_of}
use Rattle.ups_events.specs.declared.fault.AckFault.{AckFault}
use Rattle.ups_events.specs.declared.fault.AckFault.TheVariants.{AckAhead, AckStale}

-- the greatest number made and the greatest acknowledged (each 0 if there is none), the pending events, oldest first,
-- and the number of further events for which there is room
pub record QueueView : Type 0 where
  pub made : ℕ
  pub acked : ℕ
  pub events : List Event
  pub spare : ℕ

-- a later event supersedes an earlier one: both are State Reports of the same step (PS3.4 CC.2.4; defined by the
-- profile)
abbrev pub supersedes : Event → Event → Bool
supersedes later earlier = is_state_report earlier.kind && is_report_of earlier.step later

-- the pending events after x is added to these: x comes last, and the events that it supersedes are removed
abbrev pub added : List Event → Event → List Event
added xs x = filter (λ y. not (supersedes x y)) xs ++ x ∷ []

-- the events with a number greater than n
abbrev pub above : ℕ → List Event → List Event
above n xs = filter (λ (x : Event). nat_lt n x.number) xs

-- the event x was added, with the next number
pub record IsAdded (old : QueueView) (x : Event) (new : QueueView) : Type 0 where
  pub made : new.made ≡ old.made + 1
  pub number : x.number ≡ new.made
  pub acked : new.acked ≡ old.acked
  pub events : new.events ≡ added old.events x
  pub spare : old.spare ≤ new.spare + 1

-- the events up to a number were acknowledged
pub record IsAcked (old : QueueView) (upto : ℕ) (new : QueueView) : Type 0 where
  pub made : new.made ≡ old.made
  pub acked : new.acked ≡ upto
  pub events : new.events ≡ above upto old.events
  pub spare : old.spare ≤ new.spare

-- room was made for more events, and nothing else changed
pub record IsReserved (old new : QueueView) : Type 0 where
  pub made : new.made ≡ old.made
  pub acked : new.acked ≡ old.acked
  pub events : new.events ≡ old.events
  pub spare : old.spare ≤ new.spare

-- no event has been made yet
pub record IsNew (q : QueueView) : Type 0 where
  pub made : q.made ≡ 0
  pub acked : q.acked ≡ 0
  pub events : q.events ≡ []

-- why an acknowledgement up to a number is refused, if it is (defined by the profile)
abbrev pub ack_fault : QueueView → ℕ → Option AckFault
ack_fault q upto = if nat_lt q.made upto then Some AckAhead else (if nat_le upto q.acked then Some AckStale else None)

-- an empty queue without room, which stands for a place without a peer
abbrev pub empty : QueueView
empty = record { made = 0; acked = 0; events = []; spare = 0 }

-- the queue of the peer at a place
abbrev pub queue_at : List QueueView → ℕ → QueueView
queue_at qs p = slice_index_or qs p empty
