-- The digest of the requests that were read from a store.
use Rattle.std.specs.Prelude.{◌≡◌}
use Rattle.sqlite_trees.specs.View.{IsClean}
use Rattle.sqlite_trees.specs.declared.store.Store.{Ghosts}
use Rattle.ups_store.specs.Digest.{digest_of}
use Rattle.ups_store.specs.Shown.{shown_by, all_of, given_out}
use Rattle.ups_start.specs.declared.reading.Reading.{Reading}
use Rattle.ups_start.specs.Started.{said}

module _ {S : Type 0} {g : Ghosts S} where
  -- the digest is that of the requests given so far
  abbrev pub IsDigested : Reading S g → Type 0
  IsDigested reading = IsClean (shown_by reading.replay) → reading.digest ≡ digest_of (said (given_out reading.replay))

  -- the digest is that of all requests
  abbrev pub AreDigested : Reading S g → Type 0
  AreDigested reading = IsClean (shown_by reading.replay) → reading.digest ≡ digest_of (said (all_of reading.replay))
