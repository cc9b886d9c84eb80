-- What the tables say about a peer, named by its place, and about a step; and how the tables fit each other.
use Rattle.std.specs.Prelude.{◌≡◌, ℕ, Bool, true, ◌&&◌, not, List, Option, None, is_some, length, slice_set, if◌then◌else◌}
use Rattle.ups_life.specs.declared.watching.Subscription.{Subscription}
use Rattle.ups_life.specs.Distinct.{Distinct}
use Rattle.ups_keep.specs.declared.due.Final.{Final}
use Rattle.ups_keep.specs.Waits.{steps_of, waits, unless_kept}
use Rattle.ups_watch.specs.Rows.{Cells}
use Rattle.ups_watch.specs.Table as watch
use Rattle.ups_events.specs.Telling.{Line, line_at}
use Rattle.ups_tables.specs.declared.tables.Tables.{Tables}
use Rattle.ups_tables.specs.Held.{held_at, final_of, is_used}

-- WHAT THE TABLES SAY

-- how the peer at a place is subscribed to u (PS3.4 CC.2.3)
abbrev pub how : {A : Type 0} → Tables A → ℕ → List ℕ → Option Subscription
how t p u = watch.watching t.watchers p u

-- the subscriptions of the peers to u, in the order of their places
abbrev pub cells_at : {A : Type 0} → Tables A → List ℕ → Cells
cells_at t u = watch.cells_of t.watchers u

-- one of the peers keeps u by a Deletion Lock (PS3.4 CC.2.3)
abbrev pub has_lock : {A : Type 0} → Tables A → List ℕ → Bool
has_lock t u = watch.is_locked_by_any (cells_at t u)

-- when the state of u became final (PS3.4 CC.1.1); None if it is not final, or if u is not held
abbrev pub final_in : {A : Type 0} → Tables A → List ℕ → Option ℕ
final_in t u = final_of (held_at u t.steps.entries)

-- u is held
abbrev pub holds : {A : Type 0} → Tables A → List ℕ → Bool
holds t u = is_some (held_at u t.steps.entries)

-- the queue of the peer at a place (PS3.4 CC.2.4)
abbrev pub queue_line : {A : Type 0} → Tables A → ℕ → Line
queue_line t p = line_at t.queues p

-- the UID u has been used
abbrev pub uses : {A : Type 0} → Tables A → List ℕ → Bool
uses t u = is_used u t.used.keys

-- THE TABLES FIT EACH OTHER

-- There is a queue for each peer. The table of subscriptions knows exactly the held steps, and has a cell for each peer
-- in each of them. The steps that wait for their removal, each once and since its state became final, are exactly the
-- final ones that no peer keeps.
pub record TablesFit {A : Type 0} (t : Tables A) : Type 0 where
  pub queues : length t.queues ≡ length t.watchers.covers
  pub known : (u : List ℕ) → watch.knows t.watchers u ≡ holds t u
  pub width : (u : List ℕ) → watch.knows t.watchers u ≡ true → length (cells_at t u) ≡ length t.watchers.covers
  pub once : Distinct (steps_of t.due.steps)
  pub waiting : (u : List ℕ) → waits u t.due.steps ≡ unless_kept (has_lock t u) (final_in t u)

-- WHICH STEPS WOULD BE FREED IF LOCKS ENDED

-- u would be kept by a Deletion Lock if the peer at a place had this subscription to it
abbrev pub kept_if : {A : Type 0} → Tables A → ℕ → Option Subscription → List ℕ → Bool
kept_if t peer subscription u = watch.is_locked_by_any (slice_set (cells_at t u) peer subscription)

-- since when u would newly wait for its removal if the peer at a place had this subscription to it: since its state
-- became final, if u is kept now and would not be kept then; None otherwise
abbrev pub freed_if : {A : Type 0} → Tables A → ℕ → Option Subscription → List ℕ → Option ℕ
freed_if t peer subscription u = if has_lock t u && not (kept_if t peer subscription u) then final_in t u else None

-- the list has, each once, the steps that pass a test and that would then newly wait
pub record AreFreed {A : Type 0} (t : Tables A) (peer : ℕ) (subscription : Option Subscription) (chosen : List ℕ → Bool) (freed : List Final) : Type 0 where
  pub once : Distinct (steps_of freed)
  pub waiting : (u : List ℕ) → waits u freed ≡ (if chosen u then freed_if t peer subscription u else None)
