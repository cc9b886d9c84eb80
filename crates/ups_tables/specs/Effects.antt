-- What each kind of request changes in the tables; nothing else changes. Peers are named by their places.
use Rattle.std.specs.Prelude.{◌≡◌, ◌≤◌, ℕ, Bool, true, ◌&&◌, ◌||◌, not, nat_eq, List, [], ◌∷◌, ◌++◌, filter, Option, None, Some, is_some, length, slice_index_or, slice_set, if◌then◌else◌}
use Rattle.std.specs.Option.{option_or}
use Rattle.std.specs.Str.{bytes_eq}
use Rattle.ups_life.specs.declared.event.Report.{Report}
use Rattle.ups_life.specs.declared.watching.Subscription.{Subscription}
use Rattle.ups_life.specs.declared.watching.Place.{Place}
use Rattle.ups_life.specs.Watching.{is_at, is_among}
use Rattle.std.specs.HashSet as sets
use Rattle.ups_events.specs.Queue.{queue_at, IsReserved}
use Rattle.ups_events.specs.Queue as lists
use Rattle.ups_events.specs.Telling.{told, acked_to}
use Rattle.ups_watch.specs.declared.cover.Cover.{Cover}
use Rattle.ups_watch.specs.Covers.{covers_left}
use Rattle.ups_watch.specs.Table.{covering, knows}
use Rattle.ups_steps.specs.declared.held.HeldRow.{HeldRow}
use Rattle.ups_tables.specs.declared.tables.Tables.{Tables}
use Rattle.ups_tables.specs.Held.{put_held}
use Rattle.ups_tables.specs.Fit.{how, cells_at, queue_line, uses}

-- a step is created (PS3.4 CC.2.5): each peer is subscribed to it as its global subscription says, and the subscribed
-- peers are told the news
pub record IsCreated {A : Type 0} (entry : ℕ) (step : List ℕ) (held : HeldRow A) (news : List Report) (t t' : Tables A) : Type 0 where
  pub steps : t'.steps.entries ≡ t.steps.entries ++ (step, held) ∷ []
  pub used : (u : List ℕ) → uses t' u ≡ (bytes_eq step u || uses t u)
  pub covers : t'.watchers.covers ≡ t.watchers.covers
  pub hows : (p : ℕ) (u : List ℕ) → how t' p u ≡ (if bytes_eq step u then covering t.watchers p held.row.attributes else how t p u)
  pub queues : (p : ℕ) → queue_line t' p ≡ (if is_some (how t' p step) then told entry news (queue_line t p) else queue_line t p)

-- what is held of a step changes (PS3.4 CC.2.1, CC.2.2, CC.2.6): each peer that watches the step is told the news; a
-- peer that does not, and that `newly` subscribes to it with this change, is told `first` alone (PS3.4 CC.2.3, CC.2.4)
pub record IsChanged {A : Type 0} (entry : ℕ) (step : List ℕ) (held : HeldRow A) (news : List Report) (newly : List (Option Subscription)) (first : List Report) (t t' : Tables A) : Type 0 where
  pub steps : t'.steps.entries ≡ put_held step held t.steps.entries
  pub used : (u : List ℕ) → uses t' u ≡ uses t u
  pub covers : t'.watchers.covers ≡ t.watchers.covers
  pub hows : (p : ℕ) (u : List ℕ) → how t' p u ≡ (if bytes_eq step u then option_or (how t p u) (slice_index_or newly p None) else how t p u)
  pub queues : (p : ℕ) → queue_line t' p ≡ (if is_some (how t p step) then told entry news (queue_line t p) else (if is_some (slice_index_or newly p None) then told entry first (queue_line t p) else queue_line t p))

-- the global subscriptions after the peer at a place is given this one, if any
abbrev pub covers_then : {A : Type 0} → Option (Cover A) → ℕ → List (Option (Cover A)) → List (Option (Cover A))
covers_then None peer covers = covers
covers_then (Some cover) peer covers = slice_set covers peer (Some cover)

-- a peer is subscribed to the chosen steps and told the news; if a global subscription is given, it replaces the peer's
-- (PS3.4 CC.2.3)
pub record IsSubscribed {A : Type 0} (entry peer : ℕ) (subscription : Subscription) (cover : Option (Cover A)) (chosen : List (List ℕ)) (news : List Report) (t t' : Tables A) : Type 0 where
  pub steps : t'.steps.entries ≡ t.steps.entries
  pub used : (u : List ℕ) → uses t' u ≡ uses t u
  pub covers : t'.watchers.covers ≡ covers_then cover peer t.watchers.covers
  pub hows : (p : ℕ) (u : List ℕ) → how t' p u ≡ (if nat_eq peer p && is_among u chosen then Some subscription else how t p u)
  pub queues : (p : ℕ) → queue_line t' p ≡ (if nat_eq peer p then told entry news (queue_line t p) else queue_line t p)

-- the subscriptions of a peer end, at one step or everywhere (PS3.4 CC.2.3)
pub record IsUnsubscribed {A : Type 0} (peer : ℕ) (place : Place) (t t' : Tables A) : Type 0 where
  pub steps : t'.steps.entries ≡ t.steps.entries
  pub used : (u : List ℕ) → uses t' u ≡ uses t u
  pub covers : t'.watchers.covers ≡ covers_left place peer t.watchers.covers
  pub hows : (p : ℕ) (u : List ℕ) → how t' p u ≡ (if nat_eq peer p && is_at place u then None else how t p u)
  pub queues : (p : ℕ) → queue_line t' p ≡ queue_line t p

-- the global subscription of a peer ends (PS3.4 CC.2.3)
pub record IsSuspended {A : Type 0} (peer : ℕ) (t t' : Tables A) : Type 0 where
  pub steps : t'.steps.entries ≡ t.steps.entries
  pub used : (u : List ℕ) → uses t' u ≡ uses t u
  pub covers : t'.watchers.covers ≡ slice_set t.watchers.covers peer None
  pub hows : (p : ℕ) (u : List ℕ) → how t' p u ≡ how t p u
  pub queues : (p : ℕ) → queue_line t' p ≡ queue_line t p

-- a peer has acknowledged its events up to a number (defined by the profile)
pub record AcknowledgesUpto {A : Type 0} (peer upto : ℕ) (t t' : Tables A) : Type 0 where
  pub steps : t'.steps.entries ≡ t.steps.entries
  pub used : (u : List ℕ) → uses t' u ≡ uses t u
  pub covers : t'.watchers.covers ≡ t.watchers.covers
  pub hows : (p : ℕ) (u : List ℕ) → how t' p u ≡ how t p u
  pub queues : (p : ℕ) → queue_line t' p ≡ (if nat_eq peer p then acked_to upto (queue_line t p) else queue_line t p)

-- a UID is reserved: it is used from then on (PS3.4 CC.2.5)
pub record ReservesUid {A : Type 0} (step : List ℕ) (t t' : Tables A) : Type 0 where
  pub steps : t'.steps.entries ≡ t.steps.entries
  pub used : (u : List ℕ) → uses t' u ≡ (bytes_eq step u || uses t u)
  pub covers : t'.watchers.covers ≡ t.watchers.covers
  pub hows : (p : ℕ) (u : List ℕ) → how t' p u ≡ how t p u
  pub queues : (p : ℕ) → queue_line t' p ≡ queue_line t p

-- steps are removed, with all subscriptions to them (defined by the profile, with PS3.4 CC.2.3)
pub record IsSwept {A : Type 0} (due : List (List ℕ)) (t t' : Tables A) : Type 0 where
  pub steps : t'.steps.entries ≡ filter (λ (e : List ℕ × HeldRow A). not (is_among e.0 due)) t.steps.entries
  pub used : (u : List ℕ) → uses t' u ≡ uses t u
  pub covers : t'.watchers.covers ≡ t.watchers.covers
  pub hows : (p : ℕ) (u : List ℕ) → how t' p u ≡ (if is_among u due then None else how t p u)
  pub queues : (p : ℕ) → queue_line t' p ≡ queue_line t p

-- the tables say the same as before, and have at least as much room
pub record Reserved {A : Type 0} (t t' : Tables A) : Type 0 where
  pub steps : t'.steps.entries ≡ t.steps.entries
  pub used : (u : List ℕ) → uses t' u ≡ uses t u
  pub covers : t'.watchers.covers ≡ t.watchers.covers
  pub cells_same : (u : List ℕ) → cells_at t' u ≡ cells_at t u
  pub known : (u : List ℕ) → knows t'.watchers u ≡ knows t.watchers u
  pub queues : (p : ℕ) → IsReserved (queue_at t.queues p) (queue_at t'.queues p)
  pub peers : length t'.queues ≡ length t.queues
  pub due : t'.due.steps ≡ t.due.steps
  pub room_steps : t.steps.spare ≤ t'.steps.spare
  pub room_used : sets.spare t.used ≤ sets.spare t'.used
  pub room_rows : t.watchers.spare ≤ t'.watchers.spare
  pub room_due : t.due.spare ≤ t'.due.spare

-- the queue of each peer whose place passes a test has room for `more` further events
abbrev pub RoomFor : (ℕ → Bool) → ℕ → List lists.QueueView → Type 0
RoomFor has more qs = (p : ℕ) → has p ≡ true → more ≤ (queue_at qs p).spare
