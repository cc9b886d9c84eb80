-- How a queue is kept: its events in slots, some of which are spent, and an index of the State Reports by their steps.
use Rattle.std.specs.Prelude.{◌≡◌, ◌≤◌, ◌<◌, ℕ, Bool, true, false, not, ◌||◌, nat_le, List, [], ◌∷◌, map, length, Some, slice_index_or, if◌then◌else◌}
use Rattle.std.specs.List.{AllByRecursion}
use Rattle.std.specs.List.Sorted.{IsNonDecreasingBy}
use Rattle.std.specs.Map.{lookup}
use Rattle.std.specs.Str.{bytes_eq}
use Rattle.ups_life.specs.declared.event.Event.{Event}
use Rattle.ups_life.specs.declared.event.EventKind.{EventKind}
use Rattle.ups_life.specs.Events.{is_state_report, is_report_of}
use Rattle.ups_events.specs.declared.slots.EventSlot.{EventSlot}

-- the live events, oldest first
abbrev pub lives : List EventSlot → List Event
lives [] = []
lives (s ∷ ss) = if s.live then s.event ∷ lives ss else lives ss

abbrev pub is_live : EventSlot → Bool
is_live s = s.live

-- a slot after each State Report of the step u is spent
abbrev pub spent : List ℕ → EventSlot → EventSlot
spent u s = if is_report_of u s.event then record { event = s.event; live = false } else s

-- the slots before an event of this kind and step is added: the events that it supersedes are spent
abbrev pub made_way : EventKind → List ℕ → List EventSlot → List EventSlot
made_way kind u ss = if is_state_report kind then map (spent u) ss else ss

-- a slot at the front is removed: it is spent, or its event is acknowledged
abbrev pub goes : ℕ → EventSlot → Bool
goes upto s = not s.live || nat_le s.event.number upto

-- the slots without those removed from the front
abbrev pub dropped : ℕ → List EventSlot → List EventSlot
dropped upto [] = []
dropped upto (s ∷ ss) = if goes upto s then dropped upto ss else s ∷ ss

-- the numbers of events rise from slot to slot
abbrev pub Rises : List EventSlot → Type 0
Rises ss = (i j : ℕ) (d : EventSlot) → i < j → j < length ss → (slice_index_or ss i d).event.number < (slice_index_or ss j d).event.number

-- the first number is above `low`, and each other one is above the one before it
abbrev pub Rising : ℕ → List EventSlot → Type 0
Rising low [] = Unit {0}
Rising low (s ∷ ss) = (low < s.event.number) × Rising s.event.number ss

-- the entries do not fall from slot to slot
abbrev pub InOrder : List EventSlot → Type 0
InOrder ss = IsNonDecreasingBy (λ (s : EventSlot). s.event.entry) ss

-- no number is above `high`
abbrev pub UpTo : ℕ → List EventSlot → Type 0
UpTo high ss = AllByRecursion (λ (s : EventSlot). s.event.number ≤ high) ss

-- the index has the number of each live State Report, under its step
abbrev pub Indexed : List (List ℕ × ℕ) → List EventSlot → Type 0
Indexed index ss = AllByRecursion (λ (s : EventSlot). s.live ≡ true → is_state_report s.event.kind ≡ true → lookup (bytes_eq s.event.step) index ≡ Some s.event.number) ss

-- the invariant of a queue: numbers rise from above the one acknowledged to the one made last, and the index has each
-- live State Report
pub record KeepsQueue (made acked : ℕ) (index : List (List ℕ × ℕ)) (ss : List EventSlot) : Type 0 where
  pub rising : Rising acked ss
  pub up_to : UpTo made ss
  pub indexed : Indexed index ss
