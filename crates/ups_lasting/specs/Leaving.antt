-- What an append does to a ledger with drafts, and what a crash leaves of the records that were said.
use Rattle.std.specs.Prelude.{◌≡◌, ◌⊎◌, ◌++◌, ℕ, Bool, true, List, map}
use Rattle.std.specs.Global.{Global}
use Rattle.ups_journal.specs.declared.record.Record.{Record}
use Rattle.ups_restore.specs.Lessening.{lessened}
use Rattle.ups_life.specs.Settings.{Settings}
use Rattle.ups_lasting.specs.declared.draft_ledger.DraftLedger.{Ghosts}
use Rattle.ups_lasting.specs.Standing.{StandsForSome}

-- what is found is the content of a ledger, and that stands for what was said; or also what was tried to append, made less; or,
-- while an exchange is in doubt, anything that stands for what was said
abbrev pub AreLeft : (content said tried : List (Record Global)) → (List ℕ → ℕ) → Bool → (found rs : List (Record Global)) → Type 0
AreLeft content said tried less is_exchange found rs = ((found ≡ content) × (rs ≡ said)) ⊎ (((found ≡ content ++ map (lessened less) tried) × (rs ≡ said ++ tried)) ⊎ ((is_exchange ≡ true) × (rs ≡ said)))

module _ {L : Type 0} (g : Ghosts L) where
  -- what a crash can leave after an append of these records: what it could leave before, or the records behind what was kept
  abbrev pub LeavesAppended : L → List (Record Global) → L → Type 0
  LeavesAppended old records new = g.is_first new → (rs : List (Record Global)) → g.recovers new rs → g.recovers old rs ⊎ (g.is_sound old × (rs ≡ g.kept old ++ records))

  -- these records were appended
  pub record Appended (old : L) (records : List (Record Global)) (new : L) : Type 0 where
    pub put : g.is_sound new → g.kept new ≡ g.kept old ++ records
    pub drafts : g.is_sound new → g.drafts new ≡ g.drafts old
    pub sound : g.is_sound new → g.is_sound old
    pub first : g.is_first new → g.is_first old
    pub crash : LeavesAppended old records new
    pub left : g.is_first new → (rs : List (Record Global)) → g.recovers new rs → g.is_sound new × (rs ≡ g.kept new)

  -- appending these records failed
  pub record Failed (old : L) (records : List (Record Global)) (new : L) : Type 0 where
    pub same : g.is_sound new → g.kept new ≡ g.kept old
    pub drafts : g.is_sound new → g.drafts new ≡ g.drafts old
    pub sound : g.is_sound new → g.is_sound old
    pub first : g.is_first new → g.is_first old
    pub crash : LeavesAppended old records new

  -- A CRASH CAN LEAVE THESE RECORDS OF WHAT WAS SAID: it leaves the content of the ledger, and that stands for what was said; or
  -- also what was tried to append, made less; or, while an exchange is in doubt, the drafts
  pub record LeavesOfLog (ledger : L) (content said tried : List (Record Global)) (less : List ℕ → ℕ) (is_exchange : Bool) (rs : List (Record Global)) : Type 0 where
    pub found : List (Record Global)
    pub can_leave : g.recovers ledger found
    pub are : AreLeft content said tried less is_exchange found rs

  -- what a crash leaves stands for what was said, or also for what was tried to append
  abbrev pub LeavesStanding : Settings → L → (content said tried : List (Record Global)) → (List ℕ → ℕ) → Bool → Type 0
  LeavesStanding s ledger content said tried less is_exchange = g.is_first ledger → (found : List (Record Global)) → g.recovers ledger found
      → ∥ ((rs : List (Record Global)) × AreLeft content said tried less is_exchange found rs × StandsForSome s found rs) ∥₁
