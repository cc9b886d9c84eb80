-- The stages of a compaction beside a ledger that grows: what each of them has to do with the records of the ledger, its content,
-- and with its drafts. Histories here have their oldest entry first.
use Rattle.std.specs.Prelude.{◌≡◌, ◌≤◌, ℕ, Bool, true, false, List, [], ◌++◌, length, map, take, drop, All, Option, None, Some}
use Rattle.std.specs.Global.{Global}
use Rattle.ups_life.specs.declared.entry.Entry.{Entry}
use Rattle.ups_life.specs.Settings.{Settings}
use Rattle.ups_life.specs.Steps.{past}
use Rattle.ups_journal.specs.declared.record.Record.{Record}
use Rattle.ups_journal.specs.Columns.{recorded}
use Rattle.ups_journal.specs.Writable.{IsWritableEntry}
use Rattle.ups_service.specs.Law.{is_legal}
use Rattle.ups_manager.specs.View.{ManagerView}
use Rattle.ups_compact.specs.Compacting.{compacted_for, has_title_twice, left_for, steps_needed}
use Rattle.ups_compact.specs.Course.{IsLeftOf}
use Rattle.ups_compact.specs.Shifting.{shift}
use Rattle.ups_compact.specs.Shifts.{less_by}
use Rattle.ups_compact.specs.declared.shifts.Shift.{Shift}
use Rattle.ups_restore.specs.Lessening.{lessened}
use Rattle.ups_lasting.specs.Standing.{firsts, Stand}
use Rattle.ups_lasting.specs.declared.stage.Sorting.{Sorting}
use Rattle.ups_lasting.specs.declared.stage.Carriage.{Carriage}
use Rattle.ups_lasting.specs.declared.stage.Finish.{Finish}
use Rattle.ups_lasting.specs.declared.stage.Follow.{Follow}
use Rattle.ups_lasting.specs.declared.stage.Stage.{Stage}
use Rattle.ups_lasting.specs.declared.stage.Stage.TheVariants.{Resting, Clearing, Surveying, Sorting as Sort, Carrying, Finishing, Following, Freeing}

-- the records are those of a legal history
pub record AreRecordsOf (s : Settings) (records : List (Record Global)) (by : List (Entry Global)) : Type 0 where
  pub writable : All (λ (e : Entry Global). IsWritableEntry e) by
  pub are : map recorded by ≡ records
  pub legally : is_legal s by

-- the records `after` stand for each legal history that has the records `before`
abbrev pub StandsBy : Settings → List (Record Global) → List (Record Global) → (List ℕ → ℕ) → Type 0
StandsBy s before after less = (by : List (Entry Global)) → AreRecordsOf s before by → has_title_twice s.peers ≡ false → ∥ Stand s after by less ∥₁

-- the drafts are the records of the first entries of a history
pub record AreDrafted (history : List (Entry Global)) (drafted : ℕ) (drafts : List (Record Global)) : Type 0 where
  pub within : drafted ≤ length history
  pub writable : All (λ (e : Entry Global). IsWritableEntry e) (take drafted history)
  pub are : drafts ≡ map recorded (take drafted history)

-- the manager has entered the first records of the content
pub record IsSurveyed (s : Settings) (content : List (Record Global)) (whole : ManagerView Global) : Type 0 where
  pub settings : whole.settings ≡ s
  pub within : length whole.history ≤ length content
  pub all : (log : List (Entry Global)) → AreRecordsOf s (take (length whole.history) content) log → whole.history ≡ log

-- the manager has entered the first records of the content, and these steps are needed of them
abbrev pub IsSorting : Settings → List (Record Global) → Sorting → Type 0
IsSorting s content n = IsSurveyed s content n.whole × (n.steps ≡ steps_needed s (past n.whole.history))

-- of those that were read once more, a second manager has those that are kept, and the first of these are drafted
pub record AreCarried (s : Settings) (content : List (Record Global)) (whole : ManagerView Global) (steps : List (List ℕ)) (kept : List (Entry Global)) (read drafted : ℕ) (drafts : List (Record Global)) : Type 0 where
  pub surveyed : IsSurveyed s content whole
  pub needed : steps ≡ steps_needed s (past whole.history)
  pub within : read ≤ length whole.history
  pub keeps : (log : List (Entry Global)) → AreRecordsOf s (take read content) log → past kept ≡ left_for s steps (past log)
  pub drafts_are : (log : List (Entry Global)) → AreRecordsOf s (take read content) log → AreDrafted kept drafted drafts

abbrev pub IsCarried : Settings → List (Record Global) → Carriage → Type 0
IsCarried s content c = AreCarried s content c.survey c.steps c.fresh.history c.read c.drafted (firsts c.drafts.items)

-- the history is the compaction of a log for the steps needed
pub record IsCompacted (s : Settings) (log by : List (Entry Global)) : Type 0 where
  pub caller : ℕ
  pub moment : ℕ
  pub is : past by ≡ compacted_for caller moment s (steps_needed s (past log)) (past log)

-- the history is left of a log, whose compaction it is, and the numbers of each watcher's events are less by this much
pub record IsLeftLess (s : Settings) (log by : List (Entry Global)) (less : List ℕ → ℕ) : Type 0 where
  pub left : IsLeftOf s by log
  pub compacted : IsCompacted s log by
  pub numbers : (w : List ℕ) → less w ≡ shift s (past by) (past log) w

-- the history is left of the first records, and the records of its first entries are drafted
pub record AreFinished (s : Settings) (content : List (Record Global)) (kept : List (Entry Global)) (less : List ℕ → ℕ) (from drafted : ℕ) (drafts : List (Record Global)) : Type 0 where
  pub within : from ≤ length content
  pub left : (log : List (Entry Global)) → AreRecordsOf s (take from content) log → has_title_twice s.peers ≡ false → IsLeftLess s log kept less
  pub drafts_are : (log : List (Entry Global)) → AreRecordsOf s (take from content) log → AreDrafted kept drafted drafts

abbrev pub IsFinished : Settings → List (Record Global) → Finish → Type 0
IsFinished s content f = AreFinished s content f.fresh.history (less_by f.shifts) f.from f.drafted (firsts f.drafts.items)

-- the drafts are the records of what is left of a log, and those behind it, made less
pub record GoesOnDrafted (s : Settings) (behind : List (Record Global)) (log : List (Entry Global)) (less : List ℕ → ℕ) (drafts : List (Record Global)) : Type 0 where
  pub by : List (Entry Global)
  pub writable : All (λ (e : Entry Global). IsWritableEntry e) by
  pub left : IsLeftLess s log by less
  pub are : drafts ≡ map recorded by ++ map (lessened less) behind

-- what is left of the first records is drafted, and those behind them that were read
pub record AreFollowed (s : Settings) (content : List (Record Global)) (less : List ℕ → ℕ) (from read : ℕ) (drafts : List (Record Global)) : Type 0 where
  pub behind : from ≤ read
  pub within : read ≤ length content
  pub goes : (log : List (Entry Global)) → AreRecordsOf s (take from content) log → has_title_twice s.peers ≡ false → GoesOnDrafted s (drop from (take read content)) log less drafts

abbrev pub IsFollowed : Settings → List (Record Global) → Follow → Type 0
IsFollowed s content f = AreFollowed s content (less_by f.shifts) f.from f.read (firsts f.drafts.items)

-- THE STAGE AGREES with the content of a ledger and with its drafts
abbrev pub Agrees : Settings → Stage → List (Record Global) → List (Record Global) → Type 0
Agrees s Resting content drafts = Unit {0}
Agrees s Clearing content drafts = Unit {0}
Agrees s (Surveying whole) content drafts = IsSurveyed s content whole × (drafts ≡ [])
Agrees s (Sort n) content drafts = IsSorting s content n × (drafts ≡ [])
Agrees s (Carrying c) content drafts = IsCarried s content c × (drafts ≡ firsts c.drafts.items)
Agrees s (Finishing f) content drafts = IsFinished s content f × (drafts ≡ firsts f.drafts.items)
Agrees s (Following f) content drafts = IsFollowed s content f × (drafts ≡ firsts f.drafts.items)
Agrees s Freeing content drafts = Unit {0}

-- the shifts of the drafts that are about to take the place of the records
abbrev pub coming : Stage → Option (List Shift)
coming Resting = None
coming Clearing = None
coming (Surveying whole) = None
coming (Sort n) = None
coming (Carrying c) = None
coming (Finishing f) = None
coming (Following f) = Some f.shifts
coming Freeing = None

-- THE RECORDS ARE SHORTENED: those of the first entries of a history, at least so many of them, are compacted; behind them come
-- those of the other entries, made less
pub record AreShortened (s : Settings) (begun : ℕ) (after : List (Record Global)) (log : List (Entry Global)) (less : List ℕ → ℕ) : Type 0 where
  pub from : ℕ
  pub most : begun ≤ from
  pub within : from ≤ length log
  pub by : List (Entry Global)
  pub writable : All (λ (e : Entry Global). IsWritableEntry e) by
  pub left : IsLeftLess s (take from log) by less
  pub are : after ≡ map recorded by ++ map (lessened less) (map recorded (drop from log))

-- the records `after` are those of each legal history that has the records `before`, shortened
abbrev pub ShortenedBy : Settings → ℕ → List (Record Global) → List (Record Global) → (List ℕ → ℕ) → Type 0
ShortenedBy s begun before after less = (log : List (Entry Global)) → AreRecordsOf s before log → has_title_twice s.peers ≡ false → ∥ AreShortened s begun after log less ∥₁

-- THE STAGE COVERS so many of the records: it goes on to read them, or what it has read or drafted is of them, or of more
abbrev pub count_covered : ℕ → Stage → List (Record Global) → ℕ
count_covered begun Resting content = begun
count_covered begun Clearing content = length content
count_covered begun (Surveying whole) content = length content
count_covered begun (Sort n) content = length n.whole.history
count_covered begun (Carrying c) content = length c.survey.history
count_covered begun (Finishing f) content = f.from
count_covered begun (Following f) content = f.from
count_covered begun Freeing content = begun

abbrev pub Covers : ℕ → Stage → List (Record Global) → Type 0
Covers begun stage content = begun ≤ count_covered begun stage content

-- nothing is under way
abbrev pub is_idle : Stage → Bool
is_idle Resting = true
is_idle Clearing = false
is_idle (Surveying whole) = false
is_idle (Sort n) = false
is_idle (Carrying c) = false
is_idle (Finishing f) = false
is_idle (Following f) = false
is_idle Freeing = false
