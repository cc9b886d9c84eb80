-- The present state by a history, with which the tables kept beside it must agree: subscriptions (PS3.4 CC.2.3),
-- reports (PS3.4 CC.2.4), and how long steps are kept, which the profile defines. Histories are listed with their
-- newest entry first.
use Rattle.std.specs.Prelude.{◌≡◌, ℕ, Bool, true, false, List, [], ◌∷◌, length, filter, Option, None, Some, is_some, if◌then◌else◌}
use Rattle.std.specs.List.{list_any}
use Rattle.std.specs.Option.{option_or}
use Rattle.std.specs.Str.{bytes_eq}
use Rattle.ups_dataset.specs.Data.{El}
use Rattle.ups_life.specs.declared.entry.Entry.{Entry}
use Rattle.ups_life.specs.declared.event.EventKind.TheVariants.{StateReport}
use Rattle.ups_life.specs.declared.event.Report.{Report}
use Rattle.ups_life.specs.declared.peer.Peer.{Peer}
use Rattle.ups_life.specs.declared.request.Request.{Request}
use Rattle.ups_life.specs.declared.request.Request.TheVariants.{Create, Change, AskCancel, Set, Subscribe, Unsubscribe, Suspend, Ack, Sweep, Reserve}
use Rattle.ups_life.specs.declared.row.Row.{Row}
use Rattle.ups_life.specs.declared.watching.Place.{Place}
use Rattle.ups_life.specs.declared.watching.Place.TheVariants.{At, Everywhere}
use Rattle.ups_life.specs.declared.watching.Subscription.{Subscription}
use Rattle.ups_life.specs.declared.watching.Target.{Target}
use Rattle.ups_life.specs.declared.watching.Target.TheVariants.{Single, Global, Filtered}
use Rattle.ups_life.specs.Readiness.{readiness_in}
use Rattle.ups_life.specs.Settings.{Settings}
use Rattle.ups_life.specs.Steps.{used, row, row_of, final_at}
use Rattle.ups_life.specs.Watching.{granted, takes_in, is_locked, watch, held, is_held}
use Rattle.ups_life.specs.Events.{report, cancel_reports, set_reports, events, acked, pending}
use Rattle.ups_events.specs.Telling.{Line}
use Rattle.ups_watch.specs.declared.cover.Cover.{Cover}
use Rattle.ups_watch.specs.Covers.{covered}

-- GLOBAL SUBSCRIPTIONS (PS3.4 CC.2.3)

-- the global subscription that a subscription to this target makes; None if the target is one step
abbrev pub cover_to : {A : Type 0} → Target A → Subscription → Option (Cover A)
cover_to (Single step) how = None
cover_to Global how = Some (record { keys = None; subscription = how })
cover_to (Filtered keys) how = Some (record { keys = Some keys; subscription = how })

-- what is left of a watcher's global subscription if its subscriptions end at one step, or everywhere
abbrev pub cover_left : {A : Type 0} → Place → Option (Cover A) → Option (Cover A)
cover_left (At step) before = before
cover_left Everywhere before = None

-- the global subscription of w after a request, from the one before it: a newer one replaces it; unsubscribing
-- everywhere and suspending end it
abbrev pub global_then : {A : Type 0} → List Peer → List ℕ → Option (Cover A) → Request A → Option (Cover A)
global_then peers w before (Subscribe target receiver lock) = if bytes_eq receiver w then option_or (cover_to target (granted peers w lock)) before else before
global_then peers w before (Unsubscribe place receiver) = if bytes_eq receiver w then cover_left place before else before
global_then peers w before (Suspend receiver) = if bytes_eq receiver w then None else before
global_then peers w before request = before

-- THE GLOBAL SUBSCRIPTION of w, with or without keys; None if it has none
abbrev pub global : {A : Type 0} → List Peer → List (Entry A) → List ℕ → Option (Cover A)
global peers [] w = None
global peers (e ∷ es) w = global_then peers w (global peers es w) e.request

-- the subscription to a step that a watcher with this global subscription, not yet subscribed to the step, gains from a
-- change of its attributes: it gains one if the global subscription covers the step only after the change (defined by
-- the profile; PS3.4 CC.2.3 leaves open when keys are tried)
abbrev pub newly_by : {A : Type 0} → Option (Cover A) → List El → List El → Option Subscription
newly_by c before after = if is_some (covered c before) then None else covered c after

-- SUBSCRIPTIONS TO HELD STEPS (PS3.4 CC.2.3)

-- how w is subscribed to u; None if u is not held
abbrev pub live : {A : Type 0} → Settings → List (Entry A) → List ℕ → List ℕ → Option Subscription
live s es w u = if is_held s es u then watch s es w u else None

-- the held steps that a subscription to this target covers, in order of creation
abbrev pub chosen : {A : Type 0} → Settings → List (Entry A) → Target A → List (List ℕ)
chosen s es target = filter (λ u. takes_in target u (row s es u)) (held s es)

-- HOW LONG STEPS ARE KEPT (defined by the profile)

-- u is held, and a peer has a Deletion Lock on it (PS3.4 CC.2.3)
abbrev pub locked : {A : Type 0} → Settings → List (Entry A) → List ℕ → Bool
locked s es u = list_any (λ (p : Peer). is_locked (live s es p.ae u)) s.peers

-- by the subscriptions that `how` gives, one of the peers has a Deletion Lock on u
abbrev pub any_lock : List Peer → (List ℕ → List ℕ → Option Subscription) → List ℕ → Bool
any_lock peers how u = list_any (λ (p : Peer). is_locked (how p.ae u)) peers

-- when the state of u became final; None if it is not final, or if u is not held
abbrev pub final : {A : Type 0} → Settings → List (Entry A) → List ℕ → Option ℕ
final s es u = if is_held s es u then final_at es u else None

-- QUEUES OF EVENTS (PS3.4 CC.2.4; the profile defines acknowledgements and superseding)

-- THE QUEUE of w: the number of events made for it, the number up to which it has acknowledged them, and its pending
-- events
abbrev pub queue : {A : Type 0} → Settings → List (Entry A) → List ℕ → Line
queue s es w = record { made = length (events s es w); acked = acked es w; events = pending s es w }

-- WHAT IS REPORTED OF A STEP (PS3.4 CC.2.4)

-- the reports that a request on u makes, from the row of u before the request and the row after it
abbrev pub news_by : {A : Type 0} → List ℕ → Row A → Row A → Request A → List Report
news_by u before after (Create step attributes) = report StateReport u after.state (readiness_in after.attributes) ∷ []
news_by u before after (Change step state transaction) = report StateReport u after.state (readiness_in after.attributes) ∷ []
news_by u before after (AskCancel step reasons) = cancel_reports u before.state (readiness_in after.attributes)
news_by u before after (Set step transaction attributes) = set_reports u before.state (readiness_in before.attributes) (readiness_in after.attributes) attributes
news_by u before after request = []

-- the reports that the entry e makes on u, its step
abbrev pub news : {A : Type 0} → Settings → List (Entry A) → Entry A → List ℕ → List Report
news s es e u = news_by u (row_of s es u) (row_of s (e ∷ es) u) e.request

-- a State Report of a step as it is, from its row
abbrev pub report_now : {A : Type 0} → List ℕ → Row A → Report
report_now u row = report StateReport u row.state (readiness_in row.attributes)

-- ALL ANSWERS OF THE TABLES agree with the definitions on a history: the global subscription of each watcher, how each
-- watcher is subscribed to each step, when each step became final and whether it is locked, the queue of each watcher,
-- and which UIDs are used (PS3.4 CC.2.5)
pub record IsLive {A : Type 0} (s : Settings) (es : List (Entry A)) (cover_of : List ℕ → Option (Cover A)) (how_of : List ℕ → List ℕ → Option Subscription) (final_of : List ℕ → Option ℕ) (locked_of : List ℕ → Bool) (queue_of : List ℕ → Line) (used_of : List ℕ → Bool) : Type 0 where
  pub covers : (w : List ℕ) → cover_of w ≡ global s.peers es w
  pub pairs : (w u : List ℕ) → how_of w u ≡ live s es w u
  pub finals : (u : List ℕ) → final_of u ≡ final s es u
  pub locks : (u : List ℕ) → locked_of u ≡ locked s es u
  pub queues : (w : List ℕ) → queue_of w ≡ queue s es w
  pub used : (u : List ℕ) → used_of u ≡ used es u

-- KINDS OF REQUESTS

-- the request is neither on a step nor a sweep: it is a watcher's, or reserves a UID
abbrev pub is_of_no_step : {A : Type 0} → Request A → Bool
is_of_no_step (Subscribe target receiver lock) = true
is_of_no_step (Unsubscribe place receiver) = true
is_of_no_step (Suspend receiver) = true
is_of_no_step (Ack upto) = true
is_of_no_step (Reserve step) = true
is_of_no_step r = false

-- the request may change a global subscription
abbrev pub is_of_cover : {A : Type 0} → Request A → Bool
is_of_cover (Subscribe target receiver lock) = true
is_of_cover (Unsubscribe place receiver) = true
is_of_cover (Suspend receiver) = true
is_of_cover r = false

-- the request creates a step
abbrev pub is_create : {A : Type 0} → Request A → Bool
is_create (Create step set) = true
is_create r = false

-- the request uses a UID: it creates a step with it, or reserves it
abbrev pub is_of_uid : {A : Type 0} → Request A → Bool
is_of_uid (Create step set) = true
is_of_uid (Reserve step) = true
is_of_uid r = false

-- the request sets attributes of a step
abbrev pub is_set : {A : Type 0} → Request A → Bool
is_set (Set step transaction set) = true
is_set r = false

-- the request may change how watchers are subscribed to held steps
abbrev pub is_of_watch : {A : Type 0} → Request A → Bool
is_of_watch (Create step set) = true
is_of_watch (Set step transaction set) = true
is_of_watch (Subscribe target receiver lock) = true
is_of_watch (Unsubscribe place receiver) = true
is_of_watch Sweep = true
is_of_watch r = false

-- the request acknowledges events
abbrev pub is_ack : {A : Type 0} → Request A → Bool
is_ack (Ack upto) = true
is_ack r = false

-- the request neither reports nor acknowledges anything
abbrev pub is_silent : {A : Type 0} → Request A → Bool
is_silent (Unsubscribe place receiver) = true
is_silent (Suspend receiver) = true
is_silent Sweep = true
is_silent (Reserve step) = true
is_silent r = false
