-- What a slice does that drafts what was appended meanwhile, and puts the drafts in the place of the records once nothing is left
-- to draft.
use Rattle.std.specs.Prelude.{◌≡◌, ◌⊎◌, ◌≤◌, ℕ, List, Result, Ok, Err}
use Rattle.std.specs.Global.{Global}
use Rattle.ups_life.specs.Settings.{Settings}
use Rattle.ups_journal.specs.declared.record.Record.{Record}
use Rattle.ups_compact.specs.Shifts.{less_by}
use Rattle.ups_ledger.specs.declared.fault.LedgerFault.{LedgerFault}
use Rattle.ups_lasting.specs.declared.draft_ledger.DraftLedger.{Ghosts}
use Rattle.ups_lasting.specs.declared.stage.Follow.{Follow}
use Rattle.ups_lasting.specs.declared.following.Followed.{Followed}
use Rattle.ups_lasting.specs.declared.following.Followed.TheVariants.{Drafted, Exchanged, Doubtful}
use Rattle.ups_lasting.specs.Slices.{Stays}
use Rattle.ups_lasting.specs.Stages.{IsFollowed, ShortenedBy, StandsBy}
use Rattle.ups_lasting.specs.Standing.{firsts}

module _ {L : Type 0} (g : Ghosts L) where
  -- these records stand for those of the ledger, and are those, shortened, if what is known of the drafts holds
  abbrev pub StandsIf : L → Follow → List (Record Global) → Type 0
  StandsIf old f rs = (s : Settings) → IsFollowed s (g.kept old) f → g.drafts old ≡ firsts f.drafts.items
      → StandsBy s (g.kept old) rs (less_by f.shifts) × ((begun : ℕ) → begun ≤ f.from → ShortenedBy s begun (g.kept old) rs (less_by f.shifts))

  -- more is drafted
  pub record Drafts (old new : L) (f h : Follow) : Type 0 where
    pub stays : Stays g old new
    pub followed : g.is_sound new → (s : Settings) → IsFollowed s (g.kept old) f → IsFollowed s (g.kept old) h
    pub put : g.is_sound new → g.drafts old ≡ firsts f.drafts.items → g.drafts new ≡ firsts h.drafts.items
    pub from : h.from ≡ f.from

  -- the drafts are the records
  pub record HasExchanged (old new : L) (f h : Follow) : Type 0 where
    pub kept : g.is_sound new → g.drafts old ≡ firsts f.drafts.items → g.kept new ≡ firsts h.drafts.items
    pub stands : g.is_sound new → StandsIf old f (firsts h.drafts.items)
    pub shifts : h.shifts ≡ f.shifts
    pub sound : g.is_sound new → g.is_sound old
    pub first : g.is_first new → g.is_first old
    pub left : g.is_first new → (rs : List (Record Global)) → g.recovers new rs → g.is_sound new × (rs ≡ g.kept new)

  -- Nobody knows whether the drafts are the records: a crash leaves what it could leave before, or the records, or some that
  -- stand for them.
  pub record MayHaveExchanged (old new : L) (f : Follow) : Type 0 where
    pub unsound : ¬ g.is_sound new
    pub first : g.is_first new → g.is_first old
    pub crash : g.is_first new → (rs : List (Record Global)) → g.recovers new rs → g.recovers old rs ⊎ (g.is_sound old × ((rs ≡ g.kept old) ⊎ StandsIf old f rs))

  -- what following has come to
  abbrev pub Follows : L → L → Follow → Follow → Result Followed LedgerFault → Type 0
  Follows old new f h (Ok Drafted) = Drafts old new f h
  Follows old new f h (Ok Exchanged) = HasExchanged old new f h
  Follows old new f h (Ok (Doubtful fault)) = MayHaveExchanged old new f
  Follows old new f h (Err fault) = Stays g old new

  -- the drafts have taken the place of the records, or nobody knows, or the records stay
  pub record TakesPlace (old new : L) : Type 0 where
    pub put : g.is_sound new → g.kept new ≡ g.drafts old
    pub sound : g.is_sound new → g.is_sound old
    pub first : g.is_first new → g.is_first old
    pub left : g.is_first new → (rs : List (Record Global)) → g.recovers new rs → g.is_sound new × (rs ≡ g.kept new)

  pub record MayTakePlace (old new : L) : Type 0 where
    pub unsound : ¬ g.is_sound new
    pub first : g.is_first new → g.is_first old
    pub crash : g.is_first new → (rs : List (Record Global)) → g.recovers new rs → g.recovers old rs ⊎ (g.is_sound old × (rs ≡ g.drafts old))

  abbrev pub EndsExchange : L → L → Result Followed LedgerFault → Type 0
  EndsExchange old new (Ok Drafted) = ⊥
  EndsExchange old new (Ok Exchanged) = TakesPlace old new
  EndsExchange old new (Ok (Doubtful fault)) = MayTakePlace old new
  EndsExchange old new (Err fault) = Stays g old new
