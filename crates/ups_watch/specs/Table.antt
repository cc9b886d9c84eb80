-- The table of subscriptions as its callers see it (PS3.4 CC.2.3). A peer is named by its place in the list of peers.
use Rattle.std.specs.Prelude.{◌≡◌, ◌<◌, ℕ, Bool, List, [], Option, None, length, filter, replicate, slice_index_or}
use Rattle.std.specs.List.{list_any}
use Rattle.std.specs.Option.{unwrap_or}
use Rattle.ups_dataset.specs.Data.{El}
use Rattle.ups_life.specs.declared.watching.Subscription.{Subscription}
pub use Rattle.ups_life.specs.Watching.{is_locked}
use Rattle.ups_watch.specs.declared.cover.Cover.{Cover}
use Rattle.ups_watch.specs.Covers.{covering_in}
use Rattle.ups_watch.specs.Rows.{Cells, cells_in, watching_in, knows_in, HasWidth}

-- the global subscription of each peer, the known steps with the subscriptions of the peers to each of them, and the
-- number of further steps for which there is room
pub record WatchersView (A : Type 0) : Type 0 where
  pub covers : List (Option (Cover A))
  pub rows : List (List ℕ × Cells)
  pub spare : ℕ

-- how the peer at a place is subscribed to the step u
abbrev pub watching : {A : Type 0} → WatchersView A → ℕ → List ℕ → Option Subscription
watching t p u = watching_in t.rows p u

-- the step u is known
abbrev pub knows : {A : Type 0} → WatchersView A → List ℕ → Bool
knows t u = knows_in t.rows u

-- how the peer at a place is subscribed to a step created with these attributes
abbrev pub covering : {A : Type 0} → WatchersView A → ℕ → List El → Option Subscription
covering t p attributes = covering_in t.covers p attributes

-- the subscriptions of the peers to the step u, in the order of their places; empty if u is not known
abbrev pub cells_of : {A : Type 0} → WatchersView A → List ℕ → Cells
cells_of t u = unwrap_or (cells_in t.rows u) []

-- one of the peers has a Deletion Lock on the step with these cells
abbrev pub is_locked_by_any : Cells → Bool
is_locked_by_any cells_in = list_any is_locked cells_in

-- the number of peers with a Deletion Lock on the step u
abbrev pub locks : {A : Type 0} → WatchersView A → List ℕ → ℕ
locks t u = length (filter is_locked (cells_of t u))

-- the rows for steps yet to be created have a cell for each of n peers, and no peer is subscribed
abbrev pub AreBlank : ℕ → List Cells → Type 0
AreBlank n rows = (k : ℕ) → k < length rows → slice_index_or rows k [] ≡ replicate n None

-- how the parts of the table fit each other: each row, also a blank one, has a cell for each peer
pub record KeepsWatchers {A : Type 0} (covers : List (Option (Cover A))) (rows : List (List ℕ × Cells)) (blanks : List Cells) : Type 0 where
  pub width : HasWidth (length covers) rows
  pub blank : AreBlank (length covers) blanks
