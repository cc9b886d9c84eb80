-- What an open finds in the files.
use Rattle.std.specs.Prelude.{◌≡◌, ◌⊎◌, ℕ, true, List, []}
use Rattle.sqlite_disk.specs.declared.Disk as disk
use Rattle.sqlite_disk.specs.declared.Files.{Files}
use Rattle.sqlite_pages.specs.PageMap.{PageMap}
use Rattle.sqlite_wal.specs.Recovery.{Image, Replays}
use Rattle.sqlite_wal.specs.Files.{seen_image}
use Rattle.sqlite_pool.specs.Stored.{Recovers}
use Rattle.sqlite_pool.specs.Opening.{IsBlankFile}
use Rattle.sqlite_trees.specs.Tree.{Trees}
use Rattle.sqlite_trees.specs.declared.store.Shape.TheVariants.{Table}
use Rattle.sqlite_store.specs.declared.catalog.Wanted.{Wanted}
use Rattle.sqlite_store.specs.Listing.{file_trees, IsOurs}
use Rattle.sqlite_store.specs.Db.{rows_at}
use Rattle.sqlite_pool.specs.File.{in_use}
use Rattle.ups_store.specs.declared.format.Format.{Format}
use Rattle.ups_store.specs.Format.{tables_of}

-- the bytes of a page of the file
abbrev pub whole_page : ℕ
whole_page = 1024

-- a page without its checksum
abbrev pub used_page : ℕ
used_page = 1016

-- the two files as reads return them
abbrev pub image_of : {D : Type 0} → disk.Ghosts D → Files D → Image
image_of g files = seen_image g files.log files.db

-- The files recover to pages that read as this database of the schema.
abbrev pub ReadAs : ℕ → Image → List Wanted → Trees → Type 0
ReadAs size image schema db = (pages : PageMap) × Recovers size image pages × (db ≡ file_trees size schema pages)

-- The files recover to a sound database of the tables of this format, listed in their order and with no other.
abbrev pub HoldsAs : Image → Format → Type 0
HoldsAs image format = (pages : PageMap) × Recovers used_page image pages × IsOurs used_page true (tables_of format) pages

-- The files recover to a sound database of the tables of one of the formats.
abbrev pub HoldsTables : Image → Type 0
HoldsTables image = (format : Format) × HoldsAs image format

-- A store that the files hold has this format.
abbrev pub HoldsOnly : Image → Format → Type 0
HoldsOnly image format = (other : Format) → HoldsAs image other → other ≡ format

-- the database has no request, no run and no draft
abbrev pub HasNone : Trees → Type 0
HasNone db = (db 0 ≡ []) × (db 1 ≡ []) × (db 2 ≡ [])

-- The files recover to a database that lists nothing, not even a table.
abbrev pub ListsNothing : ℕ → Image → Type 0
ListsNothing size image = (pages : PageMap) × Recovers size image pages × (rows_at size (in_use size pages) Table 1 ≡ [])

-- There is no database in the files, and the log has no frame.
abbrev pub AreNew : Image → Type 0
AreNew image = IsBlankFile used_page image × Replays whole_page image.log 0

-- There is no database in the files yet, or one that lists nothing.
abbrev pub IsUnused : Image → Type 0
IsUnused image = AreNew image ⊎ ListsNothing used_page image

-- the files are blank, or hold no sound database of the tables
abbrev pub HoldsNone : Image → Type 0
HoldsNone image = IsBlankFile used_page image ⊎ (¬ HoldsTables image)

-- both images recover to the same pages
abbrev pub StandAlike : ℕ → Image → Image → Type 0
StandAlike size old new = (pages : PageMap) × Recovers size old pages × Recovers size new pages

-- The database is what the files hold, row by row, in one of the formats.
abbrev pub FindsIn : Image → Trees → Type 0
FindsIn image db = (format : Format) × ReadAs used_page image (tables_of format) db

-- The database has no rows, and there was none in the files.
abbrev pub MakesIn : Image → Trees → Type 0
MakesIn image db = IsUnused image × HasNone db
