-- The requests of a store, entered again.
use Rattle.std.specs.Prelude.{◌≡◌, ◌⊎◌, ℕ, min, List, map, ◌++◌, ◌∷◌, [], Option, None, Some, Bool, false, IsTrue}
use Rattle.std.specs.declared.alloc.Global.{Global}
use Rattle.sqlite_trees.specs.declared.store.Store.{Ghosts}
use Rattle.ups_journal.specs.declared.record.Record.{Record}
use Rattle.ups_manager.specs.View.{ManagerView}
use Rattle.ups_restore.specs.declared.leaving.Restored.{Restored}
use Rattle.ups_restore.specs.declared.leaving.Restoration.{Restoration}
use Rattle.ups_restore.specs.Leaving.{AreTaken, Becomes, counted_with}
use Rattle.ups_restore.specs.declared.acknowledging.TheConstants.{COMPACTOR}
use Rattle.ups_compact.specs.Compacting.{compacted_for, steps_needed}
use Rattle.ups_life.specs.declared.entry.Entry.{Entry}
use Rattle.ups_life.specs.Settings.{Settings}
use Rattle.ups_life.specs.Steps.{past}
use Rattle.ups_store.specs.declared.request.StoredRequest.{StoredRequest}
use Rattle.ups_life.specs.Limits.{last_moment}
use Rattle.ups_store.specs.declared.reading.Replay.{Replay}
use Rattle.ups_store.specs.declared.runs.Run.{Run}
use Rattle.ups_store.specs.Shown.{all_of, given_out}
use Rattle.ups_terms.specs.declared.choices.StartChoices.{StartChoices}

-- the moment at which a run began, at most the last one that has a date
abbrev pub moment_in : Run → ℕ
moment_in about = min about.moment last_moment

-- A start enters the records that it found again, or leaves out what may be left out, and begins with these entries or, if
-- it may compact, with their compaction.
pub record Begins (s : Settings) (found : List (Record Global)) (choices : StartChoices) (moment : ℕ) (after : List (Entry Global)) : Type 0 where
  pub entered : List (Entry Global)
  pub counts : Restoration
  pub taken : AreTaken s [] found choices.may_leave_out counts entered
  pub becomes : (after ≡ entered) ⊎ (IsTrue choices.may_compact × (past after ≡ compacted_for COMPACTOR moment s (steps_needed s (past entered)) (past entered)))

-- these choices, but no compaction
abbrev pub without_compaction : StartChoices → StartChoices
without_compaction choices = record { may_leave_out = choices.may_leave_out; may_compact = false; may_change_terms = choices.may_change_terms }

-- the records of requests, without their runs
abbrev pub said : List StoredRequest → List (Record Global)
said requests = map (λ r. r.asked) requests

module _ {S : Type 0} {g : Ghosts S} where
  -- the next request was taken and counted, or all have been taken
  abbrev pub TakesRecord : Replay S g → Replay S g → ManagerView Global → ManagerView Global → Restoration → Restoration → Bool → Option Restored → Type 0
  TakesRecord old new before after was is may None = (all_of new ≡ all_of old) × (given_out new ≡ given_out old) × (given_out new ≡ all_of new) × (after ≡ before) × (is ≡ was)
  TakesRecord old new before after was is may (Some became) = (all_of new ≡ all_of old)
      × ((request : StoredRequest) × (given_out new ≡ given_out old ++ request ∷ []) × Becomes before.settings before.history request.asked may became after.history)
      × (is ≡ counted_with was became)
