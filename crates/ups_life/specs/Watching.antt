-- Who watches which step, and which steps are held (PS3.4 CC.2.3). Histories here have the newest entry first.
use Rattle.std.specs.Prelude.{ℕ, ◌+◌, Bool, true, false, not, ◌&&◌, nat_le, List, [], ◌∷◌, ◌++◌, filter, Option, None, Some, is_some, if◌then◌else◌}
use Rattle.std.specs.List.{list_any, filter_map}
use Rattle.std.specs.Option.{option_or}
use Rattle.std.specs.Str.{bytes_eq}
use Rattle.ups_dataset.specs.Data.{El}
use Rattle.ups_match.specs.Matching.{is_match}
use Rattle.ups_life.specs.declared.entry.Entry.{Entry}
use Rattle.ups_life.specs.declared.peer.Peer.{Peer}
use Rattle.ups_life.specs.declared.request.Request.{Request}
use Rattle.ups_life.specs.declared.request.Request.TheVariants.{Create, Set, Subscribe, Unsubscribe, Suspend, Sweep}
use Rattle.ups_life.specs.declared.row.Row.{Row}
use Rattle.ups_life.specs.declared.watching.Subscription.{Subscription}
use Rattle.ups_life.specs.declared.watching.Subscription.TheVariants.{Free, Locked}
use Rattle.ups_life.specs.declared.watching.Target.{Target}
use Rattle.ups_life.specs.declared.watching.Target.TheVariants.{Single, Global, Filtered}
use Rattle.ups_life.specs.declared.watching.Place.{Place}
use Rattle.ups_life.specs.declared.watching.Place.TheVariants.{At, Everywhere}
use Rattle.ups_life.specs.declared.watching.Watched.{Watched}
use Rattle.ups_life.specs.declared.watching.Subscriber.{Subscriber}
use Rattle.ups_life.specs.Settings.{Settings}
use Rattle.ups_life.specs.Steps.{is_step, row, row_of, final_at}

-- THE PEERS: who may watch steps, and who may lock them

abbrev pub is_peer : List Peer → List ℕ → Bool
is_peer peers w = list_any (λ (p : Peer). bytes_eq p.ae w) peers

-- w is a peer with the right to lock steps
abbrev pub may_lock : List Peer → List ℕ → Bool
may_lock peers w = list_any (λ (p : Peer). bytes_eq p.ae w && p.lock) peers

-- the subscription granted to a watcher that asks for a Deletion Lock, or for none
abbrev pub granted : List Peer → List ℕ → Bool → Subscription
granted peers w lock = if lock && may_lock peers w then Locked else Free

-- SUBSCRIPTIONS

-- a subscription to this target covers the step u, which has these attributes
abbrev pub takes_in : {A : Type 0} → Target A → List ℕ → List El → Bool
takes_in (Single step) u attributes = is_step u step
takes_in Global u attributes = true
takes_in (Filtered keys) u attributes = is_match keys attributes

-- the place includes the step u
abbrev pub is_at : Place → List ℕ → Bool
is_at (At step) u = is_step u step
is_at Everywhere u = true

-- the global subscription to steps with these attributes, after a subscription to this target; a newer global
-- subscription, with keys or without, replaces the one before
abbrev pub global_after : {A : Type 0} → Target A → List El → Subscription → Option Subscription → Option Subscription
global_after (Single step) attributes how before = before
global_after Global attributes how before = Some how
global_after (Filtered keys) attributes how before = if is_match keys attributes then Some how else None

-- the global subscription after subscriptions end at this place
abbrev pub global_left : Place → Option Subscription → Option Subscription
global_left (At step) before = before
global_left Everywhere before = None

abbrev pub cover_after : {A : Type 0} → List Peer → List ℕ → List El → Option Subscription → Request A → Option Subscription
cover_after peers w attributes before (Subscribe target receiver lock) = if bytes_eq receiver w then global_after target attributes (granted peers w lock) before else before
cover_after peers w attributes before (Unsubscribe place receiver) = if bytes_eq receiver w then global_left place before else before
cover_after peers w attributes before (Suspend receiver) = if bytes_eq receiver w then None else before
cover_after peers w attributes before request = before

-- how w's global subscription subscribes it to a step with these attributes; None if it doesn't
abbrev pub cover : {A : Type 0} → List Peer → List (Entry A) → List ℕ → List El → Option Subscription
cover peers [] w attributes = None
cover peers (e ∷ es) w attributes = cover_after peers w attributes (cover peers es w attributes) e.request

-- how w's global subscription newly subscribes it to the step u that the entry e changes: it covers the new attributes
-- and not the old ones, as only a filter can (PS3.4 CC.2.3 leaves open when keys are tried; this is the profile's rule)
abbrev pub newly_covered : {A : Type 0} → Settings → List (Entry A) → Entry A → List ℕ → List ℕ → Option Subscription
newly_covered s es e w u = if is_some (cover s.peers es w (row s es u)) then None else cover s.peers es w (row s (e ∷ es) u)

-- How w is subscribed to u after the entry e; `before`: how it was until then. When u is created, w's global
-- subscription decides; from then on, what is asked for. An N-SET also subscribes w if it was not subscribed and its
-- global subscription covers u only from then on. Keys are tried only at creation, subscription and N-SET (PS3.4 CC.2.3,
-- and for the N-SET the profile).
abbrev pub watch_after : {A : Type 0} → Settings → List (Entry A) → Entry A → List ℕ → List ℕ → Option Subscription → Request A → Option Subscription
watch_after s es e w u before (Create step attributes) = if bytes_eq step u then cover s.peers es w (row s (e ∷ es) u) else before
watch_after s es e w u before (Set step transaction attributes) = if is_step u step then option_or before (newly_covered s es e w u) else before
watch_after s es e w u before (Subscribe target receiver lock) = if bytes_eq receiver w && takes_in target u (row s es u) then Some (granted s.peers w lock) else before
watch_after s es e w u before (Unsubscribe place receiver) = if bytes_eq receiver w && is_at place u then None else before
watch_after s es e w u before request = before

-- how w is subscribed to the held step u (PS3.4 CC.2.3); None if it is not subscribed
abbrev pub watch : {A : Type 0} → Settings → List (Entry A) → List ℕ → List ℕ → Option Subscription
watch s [] w u = None
watch s (e ∷ es) w u = watch_after s es e w u (watch s es w u) e.request

abbrev pub new_watcher : List ℕ → Option Subscription → Option Subscription → Option Subscriber
new_watcher w None (Some how) = Some (record { ae = w; subscription = how })
new_watcher w before covered = None

-- WHOM AN N-SET SUBSCRIBES NEWLY: the peers that were not subscribed to its step u and whose filters cover u only since
-- the N-SET, the entry e, in the order of the peers (a rule of the profile)
abbrev pub newly : {A : Type 0} → Settings → List (Entry A) → Entry A → List ℕ → List Subscriber
newly s es e u = filter_map (λ (p : Peer). new_watcher p.ae (watch s es p.ae u) (newly_covered s es e p.ae u)) s.peers

-- THE STEPS HELD

abbrev pub is_locked : Option Subscription → Bool
is_locked (Some Locked) = true
is_locked subscription = false

-- a peer has a Deletion Lock on u
abbrev pub is_kept : {A : Type 0} → Settings → List (Entry A) → List ℕ → Bool
is_kept s es u = list_any (λ (p : Peer). is_locked (watch s es p.ae u)) s.peers

-- that many seconds have passed from `since` to this moment
abbrev pub has_passed : ℕ → ℕ → Option ℕ → Bool
has_passed seconds moment None = false
has_passed seconds moment (Some since) = nat_le (since + seconds) moment

-- a sweep at this moment removes u: its state became final long enough ago, and no peer has a Deletion Lock on it
abbrev pub is_due : {A : Type 0} → Settings → List (Entry A) → ℕ → List ℕ → Bool
is_due s es moment u = has_passed s.keep moment (final_at es u) && not (is_kept s es u)

-- the steps held after an entry at this moment, if these were held before
abbrev pub held_after : {A : Type 0} → Settings → List (Entry A) → ℕ → List (List ℕ) → Request A → List (List ℕ)
held_after s es moment steps (Create step attributes) = steps ++ step ∷ []
held_after s es moment steps Sweep = filter (λ u. not (is_due s es moment u)) steps
held_after s es moment steps request = steps

-- THE STEPS HELD, in order of creation
abbrev pub held : {A : Type 0} → Settings → List (Entry A) → List (List ℕ)
held s [] = []
held s (e ∷ es) = held_after s es e.moment (held s es) e.request

-- the step is one of these
abbrev pub is_among : List ℕ → List (List ℕ) → Bool
is_among u steps = list_any (λ v. bytes_eq v u) steps

-- the step is held
abbrev pub is_held : {A : Type 0} → Settings → List (Entry A) → List ℕ → Bool
is_held s es u = is_among u (held s es)

-- the row of the step that a request names; None if it is not held
abbrev pub known : {A : Type 0} → Settings → List (Entry A) → Option (List ℕ) → Option (Row A)
known s es None = None
known s es (Some u) = if is_held s es u then Some (row_of s es u) else None

-- the steps that a sweep at this moment removes
abbrev pub removed : {A : Type 0} → Settings → List (Entry A) → ℕ → List (List ℕ)
removed s es moment = filter (is_due s es moment) (held s es)

abbrev pub watched_step : List ℕ → Option Subscription → Option Watched
watched_step u None = None
watched_step u (Some how) = Some (record { step = u; subscription = how })

-- THE STEPS THAT w WATCHES, in order of creation
abbrev pub watched : {A : Type 0} → Settings → List (Entry A) → List ℕ → List Watched
watched s es w = filter_map (λ u. watched_step u (watch s es w u)) (held s es)
