-- What a store shows as it is opened, and a start on it.
use Rattle.std.specs.Prelude.{◌≡◌, ℕ, false, List, Option}
use Rattle.std.specs.declared.alloc.Global.{Global}
use Rattle.sqlite_disk.specs.declared.start.Start.{Ghosts}
use Rattle.sqlite_trees.specs.View.{View, IsClean}
use Rattle.sqlite_wal.specs.Files.{image_at}
use Rattle.ups_journal.specs.declared.record.Record.{Record}
use Rattle.ups_life.specs.declared.entry.Entry.{Entry}
use Rattle.ups_life.specs.Settings.{Settings}
use Rattle.ups_store.specs.Found.{FindsIn}
use Rattle.ups_store.specs.Rows.{requests_in}
use Rattle.ups_store.specs.Runs.{last_row, terms_in}
use Rattle.ups_terms.specs.declared.choices.StartChoices.{StartChoices}
use Rattle.ups_start.specs.Noted.{PermitsNoted}
use Rattle.ups_start.specs.Started.{said, Begins}

-- the records of the requests in it
abbrev pub records_shown : View → List (Record Global)
records_shown shown = said (requests_in shown.committed)

-- the terms that its last run noted, or none
abbrev pub terms_shown : View → Option (List ℕ)
terms_shown shown = terms_in (last_row (shown.committed 1))

-- It shows what the files held as they were opened, row by row, if no wrong answer of the disk was taken as true.
abbrev pub ShowsFiles : {S : Type 0} → Ghosts S → View → Type 0
ShowsFiles start shown = IsClean shown → FindsIn (image_at start) shown.committed

-- No wrong answer of the disk was taken as true as the store was opened, and a start begins with this history on its
-- requests, by these choices; unless these allow other settings, its own permit as much as the terms that the last run noted.
pub record BeginsFrom (shown : View) (s : Settings) (choices : StartChoices) (moment : ℕ) (after : List (Entry Global)) : Type 0 where
  pub clean : IsClean shown
  pub begins : Begins s (records_shown shown) choices moment after
  pub permits : choices.may_change_terms ≡ false → PermitsNoted s (terms_shown shown)

-- A start begins with this history, by these choices, on a store that can be found so.
pub record Resumes (Finds : View → Type 0) (choices : StartChoices) (settings : Settings) (history : List (Entry Global)) : Type 0 where
  pub found : View
  pub finds : Finds found
  pub moment : ℕ
  pub begins : BeginsFrom found settings choices moment history
