-- What a slice of a compaction does, by its result.
use Rattle.std.specs.Prelude.{◌≡◌, ◌⊎◌, ℕ, List, Result, Ok, Err, Some}
use Rattle.std.specs.Global.{Global}
use Rattle.ups_life.specs.Settings.{Settings}
use Rattle.ups_journal.specs.declared.record.Record.{Record}
use Rattle.ups_compact.specs.declared.shifts.Shift.{Shift}
use Rattle.ups_compact.specs.Shifts.{less_by}
use Rattle.ups_ledger.specs.declared.fault.LedgerFault.{LedgerFault}
use Rattle.ups_ledger.specs.declared.tending.Tending.{Tending}
use Rattle.ups_ledger.specs.declared.tending.Tending.TheVariants as tending
use Rattle.ups_lasting.specs.declared.draft_ledger.DraftLedger.{Ghosts}
use Rattle.ups_lasting.specs.declared.stage.Stage.{Stage}
use Rattle.ups_lasting.specs.declared.compaction.Tended.{Tended}
use Rattle.ups_lasting.specs.declared.compaction.Tended.TheVariants as tended
use Rattle.ups_lasting.specs.Stages.{Agrees, Covers, ShortenedBy, StandsBy, coming}
use Rattle.ups_lasting.specs.Standing.{firsts}

-- unless the drafts took the place of the records, this holds
abbrev pub UnlessExchanged : Result Tended LedgerFault → Type 0 → Type 0
UnlessExchanged (Ok tended.Going) P = P
UnlessExchanged (Ok tended.Resting) P = P
UnlessExchanged (Ok (tended.Exchanged records)) P = Unit {0}
UnlessExchanged (Ok (tended.Doubtful records fault)) P = P
UnlessExchanged (Err fault) P = P

-- unless the drafts took the place of the records, or nobody knows whether they did, this holds
abbrev pub IfStaying : Result Tended LedgerFault → Type 0 → Type 0
IfStaying (Ok tended.Going) P = P
IfStaying (Ok tended.Resting) P = P
IfStaying (Ok (tended.Exchanged records)) P = Unit {0}
IfStaying (Ok (tended.Doubtful records fault)) P = Unit {0}
IfStaying (Err fault) P = P

-- if the drafts took the place of the records, this holds of the drafts
abbrev pub IfExchanged : Result Tended LedgerFault → (List (Record Global) → Type 0) → Type 0
IfExchanged (Ok tended.Going) P = Unit {0}
IfExchanged (Ok tended.Resting) P = Unit {0}
IfExchanged (Ok (tended.Exchanged records)) P = P (firsts records.items)
IfExchanged (Ok (tended.Doubtful records fault)) P = Unit {0}
IfExchanged (Err fault) P = Unit {0}

-- if nobody knows whether the drafts took the place of the records, this holds
abbrev pub IfDoubtful : Result Tended LedgerFault → Type 0 → Type 0
IfDoubtful (Ok tended.Going) P = Unit {0}
IfDoubtful (Ok tended.Resting) P = Unit {0}
IfDoubtful (Ok (tended.Exchanged records)) P = Unit {0}
IfDoubtful (Ok (tended.Doubtful records fault)) P = P
IfDoubtful (Err fault) P = Unit {0}

-- if records were compacted, this holds
abbrev pub IfCompacted : Result Tending LedgerFault → Type 0 → Type 0
IfCompacted (Ok tending.Resting) P = Unit {0}
IfCompacted (Ok tending.Going) P = Unit {0}
IfCompacted (Ok (tending.Compacted before after)) P = P
IfCompacted (Err fault) P = Unit {0}

-- some shifts make these records stand for those
abbrev pub StandsBySome : Settings → List (Record Global) → List (Record Global) → Type 0
StandsBySome s before after = ∥ ((less : List ℕ → ℕ) × StandsBy s before after less) ∥₁

-- the stage agrees with the records and the drafts of a ledger, as far as that is known
abbrev pub IsAgreed : Settings → Stage → List (Record Global) → List (Record Global) → Type 0
IsAgreed s stage content drafts = ∥ Agrees s stage content drafts ∥₁

module _ {L : Type 0} (g : Ghosts L) where
  -- THE DRAFTS OF A STAGE HAVE TAKEN THE PLACE of the records of a ledger: they stand for those, and are those, shortened, of which
  -- at least `begun` are compacted
  pub record HaveReplaced (s : Settings) (begun : ℕ) (old new : L) (before : Stage) (records : List (Record Global)) : Type 0 where
    pub extra : List Shift
    pub is : coming before ≡ Some extra
    pub kept : g.is_sound new → g.kept new ≡ records
    pub stands : g.is_sound new → StandsBy s (g.kept old) records (less_by extra)
    pub shortened : g.is_sound new → ShortenedBy s begun (g.kept old) records (less_by extra)

  -- one slice
  pub record Turns (s : Settings) (begun : ℕ) (old new : L) (before after : Stage) (result : Result Tended LedgerFault) : Type 0 where
    pub agrees : g.is_sound new → IsAgreed s after (g.kept new) (g.drafts new)
    pub covers : g.is_sound new → Covers begun after (g.kept new)
    pub same : UnlessExchanged result (g.is_sound new → g.kept new ≡ g.kept old)
    pub exchanged : IfExchanged result (λ records. HaveReplaced s begun old new before records)
    pub sound : g.is_sound new → g.is_sound old
    pub first : g.is_first new → g.is_first old
    pub crash : IfStaying result (g.is_first new → (rs : List (Record Global)) → g.recovers new rs → g.recovers old rs ⊎ (g.is_sound old × (rs ≡ g.kept old)))
    pub left : IfExchanged result (λ records. g.is_first new → (rs : List (Record Global)) → g.recovers new rs → g.is_sound new × (rs ≡ g.kept new))
    pub unsound : IfDoubtful result (¬ g.is_sound new)
    pub doubt : IfDoubtful result (g.is_first new → (rs : List (Record Global)) → g.recovers new rs → g.recovers old rs ⊎ (g.is_sound old × ((rs ≡ g.kept old) ⊎ StandsBySome s (g.kept old) rs)))

  -- the records of a sound ledger are those that it had, shortened: at least the first `begun` of them are compacted
  abbrev pub AreCompacted : Settings → ℕ → L → L → Type 0
  AreCompacted s begun old new = g.is_sound new → ∥ ((less : List ℕ → ℕ) × ShortenedBy s begun (g.kept old) (g.kept new) less) ∥₁
