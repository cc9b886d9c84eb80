-- The tables agree with the definitions on a legal history.
use Rattle.std.specs.Prelude.{◌≡◌, ℕ, true, List, map, Option, None, length, slice_index_or}
use Rattle.ups_life.specs.declared.entry.Entry.{Entry}
use Rattle.ups_life.specs.declared.peer.Peer.{Peer}
use Rattle.ups_life.specs.declared.watching.Subscription.{Subscription}
use Rattle.ups_life.specs.Settings.{Settings}
use Rattle.ups_life.specs.Steps.{past, used}
use Rattle.ups_life.specs.History.{legal}
use Rattle.ups_tables.specs.declared.rows.HeldStep.{HeldStep}
use Rattle.ups_tables.specs.HeldSteps.{held_steps}
use Rattle.ups_tables.specs.Live.{global, live, queue}
use Rattle.ups_tables.specs.Seen.{Once}
use Rattle.ups_events.specs.Telling.{Line, empty_line}
use Rattle.ups_watch.specs.declared.cover.Cover.{Cover}
use Rattle.ups_steps.specs.declared.held.HeldRow.{HeldRow}
use Rattle.ups_tables.specs.declared.tables.Tables.{Tables}
use Rattle.ups_tables.specs.Fit.{how, queue_line, uses, TablesFit}
use Rattle.ups_tables.specs.Places.{place_of_title, by_place}

-- WHAT THE TABLES SAY ABOUT A TITLE

-- the global subscription of the peer with the title w (PS3.4 CC.2.3); None if no peer has the title
abbrev pub cover_of : {A : Type 0} → List Peer → Tables A → List ℕ → Option (Cover A)
cover_of peers t w = by_place None (λ p. slice_index_or t.watchers.covers p None) (place_of_title peers w)

-- how the peer with the title w is subscribed to u (PS3.4 CC.2.3); None if no peer has the title
abbrev pub how_of : {A : Type 0} → List Peer → Tables A → List ℕ → List ℕ → Option Subscription
how_of peers t w u = by_place None (λ p. how t p u) (place_of_title peers w)

-- the queue of the peer with the title w (PS3.4 CC.2.4); empty if no peer has the title
abbrev pub queue_of : {A : Type 0} → List Peer → Tables A → List ℕ → Line
queue_of peers t w = by_place empty_line (λ p. queue_line t p) (place_of_title peers w)

-- WHAT THE TABLES SAY ABOUT STEPS

-- a held step as an entry of the table, under its UID
abbrev pub entry_of : {A : Type 0} → HeldStep A → List ℕ × HeldRow A
entry_of h = (h.step, record { row = h.row; holder = h.holder })

-- held steps as entries of the table, in their order
abbrev pub entries_of : {A : Type 0} → List (HeldStep A) → List (List ℕ × HeldRow A)
entries_of hs = map entry_of hs

-- THE TABLES STAND

-- the tables agree with the definitions on each title and each UID, after a history whose newest entry comes first: the
-- global subscriptions, the subscriptions to steps, the queues of events, and the used UIDs (PS3.4 CC.2.3 to CC.2.5)
pub record Lives {A : Type 0} (s : Settings) (es : List (Entry A)) (t : Tables A) : Type 0 where
  pub covers : (w : List ℕ) → cover_of s.peers t w ≡ global s.peers es w
  pub pairs : (w u : List ℕ) → how_of s.peers t w u ≡ live s es w u
  pub queues : (w : List ℕ) → queue_of s.peers t w ≡ queue s es w
  pub used : (u : List ℕ) → uses t u ≡ used es u

-- THE INVARIANT: each request of the history, whose oldest entry comes first, was accepted; no two peers have the same
-- title; there is a place for each peer; the tables fit each other; they hold the same steps as the definitions, in
-- order of creation, and agree with the definitions in all else
pub record Stands {A : Type 0} (s : Settings) (history : List (Entry A)) (t : Tables A) : Type 0 where
  pub legal : legal s (past history) ≡ true
  pub titles : Once s.peers
  pub peers : length t.watchers.covers ≡ length s.peers
  pub fits : TablesFit t
  pub steps : t.steps.entries ≡ entries_of (held_steps s (past history))
  pub lives : Lives s (past history) t
