-- The requests of a reopened store.
use Rattle.std.specs.Prelude.{◌≡◌, ℕ, List, [], ◌∷◌, ◌++◌, take, Bool, true, false}
use Rattle.std.specs.declared.alloc.Global.{Global}
use Rattle.sqlite_trees.specs.declared.store.Store.{Ghosts}
use Rattle.ups_journal.specs.declared.record.Record.{Record}
use Rattle.ups_store.specs.declared.reading.Replay.{Replay}
use Rattle.ups_store.specs.Shown.{all_of, given_out}
use Rattle.ups_start.specs.declared.front.Front.{Front}
use Rattle.ups_start.specs.Front.{AreFront}
use Rattle.ups_start.specs.Started.{said}

-- as many requests as were committed, with the digest of those, followed by the first `there` of these records
pub record HasBehind (all : List (Record Global)) (committed : Front) (records : List (Record Global)) (there : ℕ) : Type 0 where
  pub front : List (Record Global)
  pub same : AreFront front committed
  pub are : all ≡ front ++ take there records

-- as many records as were committed, with the digest of those, followed by these and no others
pub record AreBehindSame (all : List (Record Global)) (committed : Front) (records : List (Record Global)) : Type 0 where
  pub front : List (Record Global)
  pub same : AreFront front committed
  pub are : all ≡ front ++ records

module _ {S : Type 0} {g : Ghosts S} where
  -- the next request is this record, or all have been given
  abbrev pub ComesNext : Replay S g → Replay S g → Record Global → Bool → Type 0
  ComesNext old new expected true = said (given_out new) ≡ said (given_out old) ++ expected ∷ []
  ComesNext old new expected false = (given_out new ≡ given_out old) × (given_out new ≡ all_of new)
