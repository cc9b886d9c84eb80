-- What a store shows, and what was read from it.
use Rattle.std.specs.Prelude.{◌≡◌, ◌≢◌, ℕ, ◌-◌, Bool, true, false, List, [], ◌∷◌, ◌++◌, take, Option, Some, None, is_some, unwrap_or}
use Rattle.sqlite_value.specs.Order.{Row}
use Rattle.sqlite_trees.specs.View.{View}
use Rattle.sqlite_trees.specs.declared.store.Store.{Ghosts}
use Rattle.sqlite_trees.specs.declared.store.Shape.TheVariants.{Table}
use Rattle.ups_store.specs.declared.reading.Phase.{Phase}
use Rattle.ups_store.specs.declared.reading.Phase.TheVariants.{Fresh, Reading, Ended, Failed}
use Rattle.ups_store.specs.declared.reading.Replay.{Replay}
use Rattle.ups_store.specs.declared.request.StoredRequest.{StoredRequest}
use Rattle.ups_store.specs.declared.store.RequestStore.{RequestStore}
use Rattle.ups_store.specs.Rows.{requests_in, drafts_in}
use Rattle.ups_store.specs.Runs.{last_row, terms_in}

-- the next request was given after the old ones; or they are all
abbrev pub GivesRequest : List StoredRequest → List StoredRequest → List StoredRequest → Option StoredRequest → Type 0
GivesRequest all old new None = (new ≡ old) × (new ≡ all)
GivesRequest all old new (Some request) = new ≡ old ++ request ∷ []

abbrev pub is_ended : Phase → Bool
is_ended Fresh = false
is_ended Reading = false
is_ended Ended = true
is_ended Failed = false

module _ {S : Type 0} {g : Ghosts S} where
  abbrev pub requests_shown : RequestStore S g → View
  requests_shown it = g.view it.store

  -- the requests that are committed
  abbrev pub requests : RequestStore S g → List StoredRequest
  requests it = requests_in (requests_shown it).committed

  -- the requests in the draft that are committed
  abbrev pub drafts : RequestStore S g → List StoredRequest
  drafts it = drafts_in (requests_shown it).committed

  -- the rows of the runs that are committed
  abbrev pub runs : RequestStore S g → List Row
  runs it = (requests_shown it).committed 1

  -- the number of requests, even after the store is shut
  abbrev pub count_of : RequestStore S g → ℕ
  count_of it = it.count

  -- the tree of the requests
  abbrev pub tree_of : RequestStore S g → ℕ
  tree_of it = it.table

  -- the tree of the draft
  abbrev pub draft_of : RequestStore S g → ℕ
  draft_of it = 2 - it.table

  -- the store is of a format without a draft
  abbrev pub HasNoDraft : RequestStore S g → Type 0
  HasNoDraft it = (requests_shown it).shape (draft_of it) ≢ Table

  -- the number of requests in the draft is known, and they are numbered from 1
  abbrev pub is_drafting : RequestStore S g → Bool
  is_drafting it = is_some it.drafted

  -- that number, even after the store is shut, or 0 if it is not known
  abbrev pub draft_count : RequestStore S g → ℕ
  draft_count it = unwrap_or it.drafted 0

  -- the view of a store that is being read
  abbrev pub shown_by : Replay S g → View
  shown_by it = g.view it.store

  abbrev pub all_of : Replay S g → List StoredRequest
  all_of it = requests_in (shown_by it).committed

  -- the requests given so far
  abbrev pub given_out : Replay S g → List StoredRequest
  given_out it = take it.count (all_of it)

  -- the terms in the row of the last run, or none
  abbrev pub last_terms_of : Replay S g → Option (List ℕ)
  last_terms_of it = terms_in (last_row ((shown_by it).committed 1))

  -- an earlier call failed, or reading the requests has begun
  abbrev pub IsUnderWay : Replay S g → Type 0
  IsUnderWay it = it.phase ≢ Fresh

  -- an earlier call failed
  abbrev pub HasFailedToShow : Replay S g → Type 0
  HasFailedToShow it = it.phase ≡ Failed

  -- all have been given
  abbrev pub has_ended : Replay S g → Bool
  has_ended it = is_ended it.phase
