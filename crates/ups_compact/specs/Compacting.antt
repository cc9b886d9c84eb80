-- A history without the requests about steps that are no longer held. Histories here have their newest entry first.
use Rattle.std.specs.Prelude.{◌≡◌, ℕ, Bool, true, false, ◌||◌, nat_lt, List, [], ◌∷◌, ◌++◌, length, map, filter, take, Option, None, Some, if◌then◌else◌}
use Rattle.std.specs.List.{AllByRecursion}
use Rattle.ups_life.specs.declared.request.Request.{Request}
use Rattle.ups_life.specs.declared.request.Request.TheVariants.{Create, Ack, Sweep, Reserve}
use Rattle.ups_life.specs.declared.entry.Entry.{Entry}
use Rattle.ups_life.specs.declared.event.Event.{Event}
use Rattle.ups_life.specs.declared.peer.Peer.{Peer}
use Rattle.ups_life.specs.declared.event.Report.{Report}
use Rattle.ups_life.specs.Settings.{Settings}
use Rattle.ups_life.specs.Steps.{named_step}
use Rattle.ups_life.specs.Watching.{held, is_among, is_held, is_peer, removed}
use Rattle.ups_life.specs.Events.{events, acked, pending}

-- the step that a request names is one of these, or it names none
abbrev pub is_about : List (List ℕ) → Option (List ℕ) → Bool
is_about steps None = true
is_about steps (Some u) = is_among u steps

-- the requests that are kept: creations, changes, cancel requests, sets and single subscriptions of these steps, and all
-- requests about global subscriptions; no acknowledgement and no sweep
abbrev pub is_left : {A : Type 0} → List (List ℕ) → Request A → Bool
is_left steps (Ack upto) = false
is_left steps Sweep = false
is_left steps request = is_about steps (named_step request)

abbrev pub left : {A : Type 0} → List (List ℕ) → List (Entry A) → List (Entry A)
left steps es = filter (λ e. is_left steps e.request) es

-- the report of an event, without its number
abbrev pub reported : Event → Report
reported x = record { kind = x.kind; step = x.step; state = x.state; readiness = x.readiness }

-- all events reported to w, oldest first, without the numbers of the events
abbrev pub told_to : {A : Type 0} → Settings → List (Entry A) → List ℕ → List Report
told_to s es w = map reported (events s es w)

-- the reports about these steps
abbrev pub told_of_steps : List (List ℕ) → List Report → List Report
told_of_steps steps xs = filter (λ (x : Report). is_among x.step steps) xs

-- WHAT IS STILL TO BE REPORTED. A compact history has no acknowledgement, so every current event is pending in it, even one that
-- the watcher has acknowledged.

-- the events pending for w, oldest first, without their numbers
abbrev pub to_tell : {A : Type 0} → Settings → List (Entry A) → List ℕ → List Report
to_tell s es w = map reported (pending s es w)

-- the events among these that are about these steps
abbrev pub of_steps : List (List ℕ) → List Event → List Event
of_steps steps xs = filter (λ (x : Event). is_among x.step steps) xs

-- these entries, followed by w's acknowledgement up to a number, if there is one: made by this caller, at this moment
abbrev pub with_ack : {A : Type 0} → ℕ → ℕ → List ℕ → Option ℕ → List (Entry A) → List (Entry A)
with_ack caller moment w None es = es
with_ack caller moment w (Some n) es = record { caller = caller; ae = w; moment = moment; request = Ack n } ∷ es

-- these entries, followed by the acknowledgement of each of these peers, in their order
abbrev pub with_acks : {A : Type 0} → ℕ → ℕ → (List ℕ → Option ℕ) → List Peer → List (Entry A) → List (Entry A)
with_acks caller moment number [] es = es
with_acks caller moment number (p ∷ ps) es = with_acks caller moment number ps (with_ack caller moment p.ae (number p.ae) es)

-- two of these peers have the same title
abbrev pub has_title_twice : List Peer → Bool
has_title_twice [] = false
has_title_twice (p ∷ ps) = is_peer ps p.ae || has_title_twice ps

-- WHAT IS KEPT FOR MORE STEPS than those held: for removed ones too, of which a report is still to be sent (PS3.4 CC.2.4)

-- the request is a sweep that removes some of these steps
abbrev pub sweeps_some : {A : Type 0} → Settings → List (List ℕ) → List (Entry A) → ℕ → Request A → Bool
sweeps_some s steps es moment Sweep = nat_lt 0 (length (filter (λ u. is_among u steps) (removed s es moment)))
sweeps_some s steps es moment request = false

-- the entry is kept for these steps: it is left for them, or it is a sweep that removed one of them
abbrev pub is_left_for : {A : Type 0} → Settings → List (List ℕ) → Entry A → List (Entry A) → Bool
is_left_for s steps e es = is_left steps e.request || sweeps_some s steps es e.moment e.request

-- what remains of an entry that is not kept: of a creation, that the UID of its step is used (PS3.4 CC.2.5)
abbrev pub reservation : {A : Type 0} → Entry A → Request A → List (Entry A)
reservation e (Create step attributes) = record { caller = e.caller; ae = e.ae; moment = e.moment; request = Reserve step } ∷ []
reservation e request = []

-- the entries that are kept for these steps, and what remains of the others
abbrev pub left_for : {A : Type 0} → Settings → List (List ℕ) → List (Entry A) → List (Entry A)
left_for s steps [] = []
left_for s steps (e ∷ es) = if is_left_for s steps e es then e ∷ left_for s steps es else reservation e e.request ++ left_for s steps es

-- how many of the events that w has acknowledged are about these steps; events are numbered from 1
abbrev pub acked_of_steps : {A : Type 0} → Settings → List (List ℕ) → List (Entry A) → List ℕ → ℕ
acked_of_steps s steps es w = length (of_steps steps (take (acked es w) (events s es w)))

abbrev pub above_zero : ℕ → Option ℕ
above_zero n = if nat_lt 0 n then Some n else None

-- THE NUMBER TO ACKNOWLEDGE for w behind them, if there is one
abbrev pub upto_for : {A : Type 0} → Settings → List (List ℕ) → List (Entry A) → List ℕ → Option ℕ
upto_for s steps es w = above_zero (acked_of_steps s steps es w)

-- THE HISTORY COMPACTED FOR THESE STEPS: the entries that are kept for them, followed by the acknowledgement of each peer
abbrev pub compacted_for : {A : Type 0} → ℕ → ℕ → Settings → List (List ℕ) → List (Entry A) → List (Entry A)
compacted_for caller moment s steps es = with_acks caller moment (upto_for s steps es) s.peers (left_for s steps es)

-- THE STEPS LOSE NOTHING: each step held is one of them, and each step of which an event is pending for a peer
pub record LosesNothing {A : Type 0} (s : Settings) (steps : List (List ℕ)) (es : List (Entry A)) : Type 0 where
  pub keeps_held : (u : List ℕ) → is_held s es u ≡ true → is_among u steps ≡ true
  pub keeps_pending : (w : List ℕ) → is_peer s.peers w ≡ true → AllByRecursion (λ (x : Event). is_among x.step steps ≡ true) (pending s es w)

abbrev pub steps_of_events : List Event → List (List ℕ)
steps_of_events xs = map (λ (x : Event). x.step) xs

-- the steps of all events that are pending for these peers
abbrev pub steps_pending : {A : Type 0} → Settings → List (Entry A) → List Peer → List (List ℕ)
steps_pending s es [] = []
steps_pending s es (p ∷ ps) = steps_of_events (pending s es p.ae) ++ steps_pending s es ps

-- THE STEPS NEEDED: those held, and those of which an event is pending. They lose nothing.
abbrev pub steps_needed : {A : Type 0} → Settings → List (Entry A) → List (List ℕ)
steps_needed s es = held s es ++ steps_pending s es s.peers
