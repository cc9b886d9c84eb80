-- Records that stand for the log of all accepted requests.
use Rattle.std.specs.Prelude.{◌≡◌, ℕ, false, List, [], ◌∷◌, map, All}
use Rattle.std.specs.Global.{Global}
use Rattle.ups_life.specs.declared.entry.Entry.{Entry}
use Rattle.ups_life.specs.Settings.{Settings}
use Rattle.ups_life.specs.Steps.{past}
use Rattle.ups_journal.specs.declared.record.Record.{Record}
use Rattle.ups_journal.specs.Columns.{recorded}
use Rattle.ups_journal.specs.Writable.{IsWritableEntry}
use Rattle.ups_service.specs.Law.{is_legal}
use Rattle.ups_manager.specs.View.{ManagerView}
use Rattle.ups_compact.specs.Compacting.{has_title_twice}
use Rattle.ups_compact.specs.Shifting.{shift, IsShifted}

-- the records of a log that only proofs read
abbrev pub firsts : List (Record Global × Unit {0}) → List (Record Global)
firsts [] = []
firsts (x ∷ xs) = x.0 ∷ firsts xs

-- the records of the history of the first manager, if there is one
abbrev pub begun_records : List (ManagerView Global × Unit {0}) → List (Record Global)
begun_records [] = []
begun_records (x ∷ xs) = map recorded x.0.history

-- THE RECORDS STAND FOR THE LOG: they are those of a history that stands for it, in which the numbers of each watcher's events
-- are less by this much (PS3.4 CC.2.4)
pub record Stand (s : Settings) (records : List (Record Global)) (log : List (Entry Global)) (less : List ℕ → ℕ) : Type 0 where
  pub by : List (Entry Global)
  pub writable : All (λ (e : Entry Global). IsWritableEntry e) by
  pub are : map recorded by ≡ records
  pub shifted : IsShifted s (past by) (past log)
  pub numbers : (w : List ℕ) → shift s (past by) (past log) w ≡ less w

-- the records stand for each legal log whose records were said
abbrev pub StandsForLog : Settings → List (Record Global) → List (Record Global) → (List ℕ → ℕ) → Type 0
StandsForLog s records said less = (log : List (Entry Global)) → All (λ (e : Entry Global). IsWritableEntry e) log → map recorded log ≡ said → is_legal s log → has_title_twice s.peers ≡ false → ∥ Stand s records log less ∥₁

-- some shifts make these records stand for those that were said
abbrev pub StandsForSome : Settings → List (Record Global) → List (Record Global) → Type 0
StandsForSome s records said = ∥ ((less : List ℕ → ℕ) × StandsForLog s records said less) ∥₁
