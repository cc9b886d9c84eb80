-- What a slice of a compaction leaves of the records of a ledger.
use Rattle.std.specs.Prelude.{◌≡◌, ◌⊎◌, List}
use Rattle.std.specs.Global.{Global}
use Rattle.ups_journal.specs.declared.record.Record.{Record}
use Rattle.ups_lasting.specs.declared.draft_ledger.DraftLedger.{Ghosts}

module _ {L : Type 0} (g : Ghosts L) where
  -- THE RECORDS STAY, and no crash leaves other ones than it could leave before, or these
  pub record Stays (old new : L) : Type 0 where
    pub same : g.is_sound new → g.kept new ≡ g.kept old
    pub sound : g.is_sound new → g.is_sound old
    pub first : g.is_first new → g.is_first old
    pub crash : g.is_first new → (rs : List (Record Global)) → g.recovers new rs → g.recovers old rs ⊎ (g.is_sound old × (rs ≡ g.kept old))
