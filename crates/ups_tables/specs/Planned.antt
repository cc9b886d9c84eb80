-- The plan of a request is right: all changes that it makes to the tables agree with the definitions. Histories are
-- listed with their newest entry first.
use Rattle.std.specs.Prelude.{◌≡◌, ◌≤◌, ◌<◌, ◌+◌, ℕ, Bool, true, false, List, [], ◌∷◌, map, Option, None, Some, is_some, length, slice_index_or, if◌then◌else◌}
use Rattle.std.specs.HashSet as sets
use Rattle.ups_dataset.specs.Data.{El}
use Rattle.ups_life.specs.declared.entry.Entry.{Entry}
use Rattle.ups_life.specs.declared.event.Report.{Report}
use Rattle.ups_life.specs.declared.request.Transaction.{Transaction}
use Rattle.ups_life.specs.declared.request.Request.TheVariants.{Create, Set, Subscribe, Unsubscribe, Suspend, Ack, Sweep, Reserve}
use Rattle.ups_life.specs.declared.watching.Place.TheVariants.{At, Everywhere}
use Rattle.ups_life.specs.declared.watching.Subscription.{Subscription}
use Rattle.ups_life.specs.declared.watching.Target.{Target}
use Rattle.ups_life.specs.declared.watching.Target.TheVariants.{Single}
use Rattle.ups_life.specs.Settings.{Settings}
use Rattle.ups_life.specs.Steps.{step_of, row_of}
use Rattle.ups_life.specs.Watching.{granted, is_among, is_held}
use Rattle.ups_life.specs.Events.{as_it_is}
use Rattle.ups_tables.specs.HeldSteps.{held_steps, put_step}
use Rattle.ups_tables.specs.Live.{cover_to, chosen, news, newly_by, is_of_watch}
use Rattle.ups_keep.specs.declared.due.Final.{Final}
use Rattle.ups_keep.specs.Due.{due_until}
use Rattle.ups_events.specs.Queue.{ack_fault, queue_at}
use Rattle.ups_watch.specs.declared.cover.Cover.{Cover}
use Rattle.ups_steps.specs.declared.held.HeldRow.{HeldRow}
use Rattle.ups_tables.specs.declared.tables.Tables.{Tables}
use Rattle.ups_tables.specs.declared.plan.Plan.{Plan}
use Rattle.ups_tables.specs.declared.plan.Plan.TheVariants.{Create as ToCreate, Change as ToChange, Set as ToSet, Single as ToSingle, Global as ToGlobal, End as ToEnd, EndAll as ToEndAll, Suspend as ToSuspend, Ack as ToAck, Sweep as ToSweep, Reserve as ToReserve, Idle as ToIdle}
use Rattle.ups_tables.specs.Effects.{RoomFor}
use Rattle.ups_tables.specs.Fit.{how, AreFreed}
use Rattle.ups_tables.specs.Keyed.{step_with_held}
use Rattle.ups_tables.specs.Places.{place_of_title}

-- REQUESTS ON A STEP

-- `held` is what the definitions hold of the step of the entry after it, and `told` is the news of the entry on the
-- step (PS3.4 CC.2.4)
pub record PlansStep {A : Type 0} (s : Settings) (es : List (Entry A)) (e : Entry A) (step : List ℕ) (held : HeldRow A) (told : List Report) : Type 0 where
  pub steps : put_step (step_with_held step held) (held_steps s es) ≡ held_steps s (e ∷ es)
  pub row : held.row ≡ row_of s (e ∷ es) step
  pub news : told ≡ news s es e step

-- a step is to be created (PS3.4 CC.2.5)
pub record PlansCreate {A : Type 0} (s : Settings) (es : List (Entry A)) (e : Entry A) (step : List ℕ) (held : HeldRow A) (told : List Report) : Type 0 where
  pub attributes : List El
  pub request : e.request ≡ Create step attributes
  pub on : PlansStep s es e step held told

-- the state of a step is to change, or its cancellation is requested (PS3.4 CC.2.1, CC.2.2); neither subscribes anybody
pub record PlansChange {A : Type 0} (s : Settings) (es : List (Entry A)) (e : Entry A) (step : List ℕ) (held : HeldRow A) (told : List Report) : Type 0 where
  pub request : step_of e.request ≡ Some step
  pub old : is_of_watch e.request ≡ false
  pub on : PlansStep s es e step held told

-- attributes of a step are to be set (PS3.4 CC.2.6); this subscribes the peers that are not subscribed to the step and
-- whose global subscriptions cover it only after the change, and they are told of the step as it is then
pub record PlansSet {A : Type 0} (s : Settings) (es : List (Entry A)) (e : Entry A) (t : Tables A) (step : List ℕ) (held : HeldRow A) (told : List Report) (newly : List (Option Subscription)) (first : List Report) : Type 0 where
  pub transaction : Transaction
  pub attributes : List El
  pub request : e.request ≡ Set (Some step) transaction attributes
  pub on : PlansStep s es e step held told
  pub width : length newly ≤ length t.watchers.covers
  pub newly_are : (p : ℕ) → slice_index_or newly p None ≡ (if is_some (how t p step) then None else newly_by (slice_index_or t.watchers.covers p None) (row_of s es step).attributes held.row.attributes)
  pub first_is : first ≡ as_it_is s (e ∷ es) step ∷ []

-- REQUESTS OF A WATCHER (PS3.4 CC.2.3)

-- a peer is to be subscribed to one held step, and told of it as it is
pub record PlansSingle {A : Type 0} (s : Settings) (es : List (Entry A)) (e : Entry A) (peer : ℕ) (step : List ℕ) (subscription : Subscription) (told : List Report) : Type 0 where
  pub receiver : List ℕ
  pub place : place_of_title s.peers receiver ≡ Some peer
  pub lock : Bool
  pub request : e.request ≡ Subscribe (Single (Some step)) receiver lock
  pub how_is : subscription ≡ granted s.peers receiver lock
  pub here : is_held s es step ≡ true
  pub news : told ≡ map (as_it_is s es) (step ∷ [])

-- a peer is to be subscribed globally, with or without keys, and so to the held steps that its subscription covers; it
-- is told of each of these as it is; freed are the final ones that this peer alone kept and no longer keeps
pub record PlansGlobal {A : Type 0} (s : Settings) (es : List (Entry A)) (e : Entry A) (t : Tables A) (peer : ℕ) (cover : Cover A) (steps : List (List ℕ)) (freed : List Final) (told : List Report) : Type 0 where
  pub receiver : List ℕ
  pub place : place_of_title s.peers receiver ≡ Some peer
  pub target : Target A
  pub lock : Bool
  pub request : e.request ≡ Subscribe target receiver lock
  pub cover_is : Some cover ≡ cover_to target (granted s.peers receiver lock)
  pub steps_are : steps ≡ chosen s es target
  pub freed_are : AreFreed t peer (Some cover.subscription) (λ u. is_among u steps) freed
  pub news : told ≡ map (as_it_is s es) (chosen s es target)

-- the subscription of a peer to one step is to end
pub record PlansEnd {A : Type 0} (s : Settings) (e : Entry A) (peer : ℕ) (step : List ℕ) : Type 0 where
  pub receiver : List ℕ
  pub place : place_of_title s.peers receiver ≡ Some peer
  pub request : e.request ≡ Unsubscribe (At (Some step)) receiver

-- all subscriptions of a peer are to end; freed are the final steps that this peer alone kept
pub record PlansEndAll {A : Type 0} (s : Settings) (e : Entry A) (t : Tables A) (peer : ℕ) (freed : List Final) : Type 0 where
  pub receiver : List ℕ
  pub place : place_of_title s.peers receiver ≡ Some peer
  pub request : e.request ≡ Unsubscribe Everywhere receiver
  pub freed_are : AreFreed t peer None (λ u. true) freed

-- the global subscription of a peer is to end
pub record PlansSuspend {A : Type 0} (s : Settings) (e : Entry A) (peer : ℕ) : Type 0 where
  pub receiver : List ℕ
  pub place : place_of_title s.peers receiver ≡ Some peer
  pub request : e.request ≡ Suspend receiver

-- REQUESTS DEFINED BY THE PROFILE

-- a peer acknowledges its events up to a number that is allowed
pub record PlansAck {A : Type 0} (s : Settings) (e : Entry A) (t : Tables A) (peer upto : ℕ) : Type 0 where
  pub place : place_of_title s.peers e.ae ≡ Some peer
  pub request : e.request ≡ Ack upto
  pub allowed : ack_fault (queue_at t.queues peer) upto ≡ None

-- a UID is to be reserved (PS3.4 CC.2.5)
pub record PlansReserve {A : Type 0} (e : Entry A) (step : List ℕ) : Type 0 where
  pub request : e.request ≡ Reserve step

-- a sweep is to remove the steps that have waited at least as long as final steps are kept
pub record PlansSweep {A : Type 0} (s : Settings) (e : Entry A) (t : Tables A) (due : List Final) (moment : ℕ) : Type 0 where
  pub request : e.request ≡ Sweep
  pub since : moment + s.keep ≡ e.moment
  pub due_are : due ≡ due_until moment t.due.steps

-- a sweep is to remove nothing: no step has waited as long as final steps are kept
pub record PlansIdle {A : Type 0} (s : Settings) (e : Entry A) (t : Tables A) : Type 0 where
  pub request : e.request ≡ Sweep
  pub none : (since : ℕ) → since + s.keep ≤ e.moment → due_until since t.due.steps ≡ []

-- THE PLAN of an entry of any kind is right
abbrev pub IsPlan : {A : Type 0} → Settings → List (Entry A) → Entry A → Tables A → Plan A → Type 0
IsPlan s es e t (ToCreate step held told) = PlansCreate s es e step held told.items
IsPlan s es e t (ToChange step held told) = PlansChange s es e step held told.items
IsPlan s es e t (ToSet step held told newly first) = PlansSet s es e t step held told.items newly.items first.items
IsPlan s es e t (ToSingle peer step subscription told) = PlansSingle s es e peer step subscription told.items
IsPlan s es e t (ToGlobal peer cover steps freed told) = PlansGlobal s es e t peer cover steps.items freed.items told.items
IsPlan s es e t (ToEnd peer step) = PlansEnd s e peer step
IsPlan s es e t (ToEndAll peer freed) = PlansEndAll s e t peer freed.items
IsPlan s es e t (ToSuspend peer) = PlansSuspend s e peer
IsPlan s es e t (ToAck peer upto) = PlansAck s e t peer upto
IsPlan s es e t (ToSweep due moment) = PlansSweep s e t due.items moment
IsPlan s es e t (ToReserve step) = PlansReserve e step
IsPlan s es e t ToIdle = PlansIdle s e t

-- WHICH STEPS ARE REMOVED, and how many

-- the steps that a plan removes; only a sweep removes any
abbrev pub removed_by : {A : Type 0} → Plan A → List Final
removed_by (ToSweep due moment) = due.items
removed_by plan = []

-- the number of steps that a plan removes: the reply to a sweep
abbrev pub swept_by : {A : Type 0} → Plan A → ℕ
swept_by (ToSweep due moment) = length due.items
swept_by plan = 0

-- THE ROOM that a plan needs

-- to create a step: room for the step and its UID, for its row of subscriptions, and for `news` events for each peer
-- with a global subscription
pub record RoomToCreate {A : Type 0} (t : Tables A) (news : ℕ) : Type 0 where
  pub steps_room : 0 < t.steps.spare
  pub used_room : 0 < sets.spare t.used
  pub rows_room : 0 < t.watchers.spare
  pub events_room : RoomFor (λ p. is_some (slice_index_or t.watchers.covers p None)) news t.queues

-- to change what is held of a step: room for its wait, for `news` events of each peer that watches it, and for `first`
-- events of each peer that `newly` subscribes to it
pub record RoomToChange {A : Type 0} (t : Tables A) (step : List ℕ) (news : ℕ) (newly : List (Option Subscription)) (first : ℕ) : Type 0 where
  pub due_room : 0 < t.due.spare
  pub news_room : RoomFor (λ p. is_some (how t p step)) news t.queues
  pub first_room : RoomFor (λ p. is_some (slice_index_or newly p None)) first t.queues

-- the room that each kind of plan needs
abbrev pub room_for : {A : Type 0} → Tables A → Plan A → Type 0
room_for t (ToCreate step held told) = RoomToCreate t (length told.items)
room_for t (ToChange step held told) = (0 < t.due.spare) × RoomFor (λ p. is_some (how t p step)) (length told.items) t.queues
room_for t (ToSet step held told newly first) = RoomToChange t step (length told.items) newly.items (length first.items)
room_for t (ToSingle peer step subscription told) = (0 < t.due.spare) × (length told.items ≤ (queue_at t.queues peer).spare)
room_for t (ToGlobal peer cover steps freed told) = (length freed.items ≤ t.due.spare) × (length told.items ≤ (queue_at t.queues peer).spare)
room_for t (ToEnd peer step) = 0 < t.due.spare
room_for t (ToEndAll peer freed) = length freed.items ≤ t.due.spare
room_for t (ToSuspend peer) = Unit {0}
room_for t (ToAck peer upto) = Unit {0}
room_for t (ToSweep due moment) = Unit {0}
room_for t (ToReserve step) = 0 < sets.spare t.used
room_for t ToIdle = Unit {0}
