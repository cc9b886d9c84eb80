-- The committed records of a store, by their number and their digest.
use Rattle.std.specs.Prelude.{◌≡◌, ◌+◌, List, length}
use Rattle.std.specs.declared.alloc.Global.{Global}
use Rattle.ups_journal.specs.declared.record.Record.{Record}
use Rattle.ups_store.specs.Digest.{digest_of, digest_after}
use Rattle.ups_start.specs.declared.front.Front.{Front}

-- the records are as many as the front has, and have its digest
pub record AreFront (records : List (Record Global)) (front : Front) : Type 0 where
  pub many : length records ≡ front.count
  pub same : digest_of records ≡ front.digest

-- the front with these records behind it
abbrev pub front_with : Front → List (Record Global) → Front
front_with front records = record { count = front.count + length records; digest = digest_after front.digest records }
