-- Why files are not opened.
use Rattle.std.specs.Prelude.{◌≡◌, ◌⊎◌, ℕ, ℤ, pos, negsuc, ◌+◌, ◌<◌, ◌==◌, Bool, true, false, Option, None, Some, List, ⊤, IsTrue, if◌then◌else◌}
use Rattle.std.specs.IoError.{raw_os_error}
use Rattle.std.specs.declared.io.Error.{Error as IoError}
use Rattle.sqlite_disk.specs.Refusal.{is_no_room}
use Rattle.sqlite_std_file.specs.declared.pair.OpenError.{OpenError as PathError}
use Rattle.sqlite_std_file.specs.declared.pair.OpenError.TheVariants as path
use Rattle.sqlite_disk.specs.declared.Disk as disk
use Rattle.sqlite_disk.specs.declared.Files.{Files}
use Rattle.sqlite_disk.specs.Disk.{MoreFaults}
use Rattle.sqlite_wal.specs.Reads.{AreClean}
use Rattle.sqlite_trees.specs.declared.error.StoreError.{StoreError}
use Rattle.sqlite_trees.specs.declared.error.StoreError.TheVariants as names
use Rattle.sqlite_store.specs.declared.error.OpenError.{OpenError}
use Rattle.sqlite_store.specs.declared.error.OpenError.TheVariants as kit
use Rattle.sqlite_store.specs.declared.store.open.Unopened.{Unopened}
use Rattle.sqlite_store.specs.Unopened.{files_of, IsFullFile, StopsCreating}
use Rattle.sqlite_wal.specs.Files.{IsHuge}
use Rattle.sqlite_wal.specs.Recovery.{IsLogFor, Replays}
use Rattle.sqlite_wal.specs.Opening.{RefusesLog}
use Rattle.sqlite_wal.specs.declared.error.Error.{Error}
use Rattle.sqlite_wal.specs.declared.error.Error.TheVariants as log
use Rattle.sqlite_pool.specs.Opening.{IsBlankFile}
use Rattle.ups_store.specs.Found.{whole_page, used_page, image_of, IsUnused, HoldsNone}
use Rattle.ups_store.specs.declared.fault.OpenFault.{OpenFault}
use Rattle.ups_store.specs.declared.fault.OpenFault.TheVariants.{Memory, Busy, Unopened as NoFile, Disk, Full, AtLimit, Damaged, NotStore, OtherFormat, Missing, LogAlone, Exists}

-- the log and the database file
abbrev pub pair : {D : Type 0} → Files D → D × D
pair files = (files.log, files.db)

-- the number of failed calls of the two files
abbrev pub faults_in : {D : Type 0} → disk.Ghosts D → Files D → ℕ
faults_in g files = g.faults files.log + g.faults files.db

-- no wrong answer of the two files has been taken as true
abbrev pub AreCleanFiles : {D : Type 0} → disk.Ghosts D → Files D → Type 0
AreCleanFiles g files = AreClean g files.log files.db

-- a sync of one of them has failed
abbrev pub IsUnusable : {D : Type 0} → disk.Ghosts D → Files D → Type 0
IsUnusable g files = ¬ (IsTrue (g.is_usable files.log) × IsTrue (g.is_usable files.db))

-- a call of the files failed between these states, or a sync has failed
abbrev pub HasFailed : {D : Type 0} → disk.Ghosts D → Files D → Files D → Type 0
HasFailed g old new = MoreFaults (faults_in g old) (faults_in g new) ⊎ IsUnusable g new

-- a log for pages of this size; 32 bits do not number its frames or the pages of the database
abbrev pub IsLongLog : {D : Type 0} → disk.Ghosts D → Files D → Type 0
IsLongLog g files = IsLogFor whole_page (g.seen files.log) × IsHuge whole_page (image_of g files)

-- a limit of the file format was met
abbrev pub MeetsLimit : {D : Type 0} (g : disk.Ghosts D) → Files D → Type 0
MeetsLimit {D} g files = (it : Unopened D g) × (files_of it ≡ (files.log, files.db)) × (IsFullFile it ⊎ StopsCreating it)

abbrev pub fault_of_opening : OpenError → StoreError → OpenFault
fault_of_opening kit.OutOfMemory name = Memory
fault_of_opening kit.Io names.Corrupt = Damaged
fault_of_opening kit.Io names.Full = Full
fault_of_opening kit.Io name = Disk
fault_of_opening kit.Full name = AtLimit
fault_of_opening kit.Refused name = NotStore

-- the number of a failed read, write or sync
abbrev pub is_failure : Option ℤ → Bool
is_failure None = false
is_failure (Some (pos number)) = number == 5
is_failure (Some (negsuc number)) = false

-- a call on a path failed: for want of room, at the disk, or otherwise
abbrev pub fault_of_io : IoError → OpenFault
fault_of_io error = if is_no_room error then Full else (if is_failure (raw_os_error error) then Disk else NoFile)

abbrev pub fault_of_path : PathError → OpenFault
fault_of_path path.OutOfMemory = Memory
fault_of_path path.Busy = Busy
fault_of_path (path.Io error) = fault_of_io error
fault_of_path path.HotJournal = NoFile

-- the error of a recovery that refuses a log
abbrev pub refuses_log : Error → Bool
refuses_log (log.Io error) = false
refuses_log log.OutOfMemory = false
refuses_log log.Closed = true
refuses_log log.NoSuchPage = true
refuses_log log.Full = true
refuses_log log.Corrupt = true
refuses_log log.Exists = true

-- an error of reading a log that is not refused
abbrev pub fault_of_log : Error → OpenFault
fault_of_log log.OutOfMemory = Memory
fault_of_log error = Disk

-- what has to hold if an open answers each fault
pub record OpenReasons : Type 1 where
  pub Failed : Type 0
  pub AtLimit : Type 0
  pub Refused : Type 0
  pub IsMissing : Type 0
  pub LogIsAlone : Type 0
  pub IsThere : Type 0

-- the reasons of a call that never finds files missing, alone or there
abbrev pub because : Type 0 → Type 0 → Type 0 → OpenReasons
because failed limit refused = record { Failed = failed; AtLimit = limit; Refused = refused; IsMissing = ⊥; LogIsAlone = ⊥; IsThere = ⊥ }

abbrev pub HasOpenReason : OpenReasons → OpenFault → Type 0
HasOpenReason r Memory = ⊤
HasOpenReason r Busy = ⊥
HasOpenReason r NoFile = ⊥
HasOpenReason r Disk = r.Failed
HasOpenReason r Full = r.Failed
HasOpenReason r AtLimit = r.AtLimit
HasOpenReason r Damaged = r.Failed ⊎ r.Refused
HasOpenReason r NotStore = r.Refused
HasOpenReason r OtherFormat = r.Refused
HasOpenReason r Missing = r.IsMissing
HasOpenReason r LogAlone = r.LogIsAlone
HasOpenReason r Exists = r.IsThere

-- recovery takes a frame of the log, or refuses the log
abbrev pub HasLog : List ℕ → Type 0
HasLog bytes = ((frames : ℕ) × (0 < frames) × Replays whole_page bytes frames) ⊎ ((why : Error) × RefusesLog whole_page bytes why)

-- there is no database in the files, but the log is not empty
abbrev pub IsAlone : {D : Type 0} → disk.Ghosts D → Files D → Type 0
IsAlone g files = IsBlankFile used_page (image_of g files) × HasLog (g.seen files.log)

-- the reasons of an open, by the files before and after it
abbrev pub reasons : {D : Type 0} (g : disk.Ghosts D) → Files D → Files D → OpenReasons
reasons g old new = record {
  Failed = HasFailed g old new;
  AtLimit = MeetsLimit g new ⊎ IsLongLog g old;
  Refused = HoldsNone (image_of g old);
  IsMissing = IsUnused (image_of g old);
  LogIsAlone = IsAlone g old;
  IsThere = ⊥;
}

-- the reasons of a creation
abbrev pub creation_reasons : {D : Type 0} (g : disk.Ghosts D) → Files D → Files D → OpenReasons
creation_reasons g old new = record {
  Failed = HasFailed g old new;
  AtLimit = MeetsLimit g new ⊎ IsLongLog g old;
  Refused = ⊤;
  IsMissing = ⊥;
  LogIsAlone = IsAlone g old;
  IsThere = ¬ IsBlankFile used_page (image_of g old);
}

-- a fault of files that hold no sound database of the tables, or lack of memory
abbrev pub IsKind : OpenFault → Type 0
IsKind Memory = ⊤
IsKind Damaged = ⊤
IsKind NotStore = ⊤
IsKind OtherFormat = ⊤
IsKind fault = ⊥
