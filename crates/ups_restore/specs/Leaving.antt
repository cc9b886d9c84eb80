-- Records that are entered again one by one. A record that is not accepted with these settings may be left out, if allowed.
use Rattle.std.specs.Prelude.{◌≡◌, ◌≢◌, ◌+◌, ◌-◌, ◌^◌, ℕ, min, Bool, true, List, [], ◌∷◌, ◌++◌, length}
use Rattle.ups_life.specs.declared.entry.Entry.{Entry}
use Rattle.ups_life.specs.Settings.{Settings}
use Rattle.ups_journal.specs.declared.record.Record.{Record}
use Rattle.ups_restore.specs.declared.fault.Refusal.TheVariants.{Refused}
use Rattle.ups_restore.specs.declared.fault.RestoreFault.{RestoreFault}
use Rattle.ups_restore.specs.declared.fault.RestoreRefusal.{RestoreRefusal}
use Rattle.ups_restore.specs.declared.fault.RestoreRefusal.TheVariants.{Entry as OfEntry}
use Rattle.ups_restore.specs.declared.leaving.Restored.{Restored}
use Rattle.ups_restore.specs.declared.leaving.Restored.TheVariants.{Entered, LeftOut}
use Rattle.ups_restore.specs.declared.leaving.Restoration.{Restoration}
use Rattle.ups_restore.specs.Replaying.{IsRefusedFor, IsFailure, GoesOnBy}

-- what becomes of a record after a history: its entry is added to the history; or it is left out, which is allowed, its entry is
-- not accepted there with these settings, and the history is unchanged
abbrev pub Becomes : {A : Type 0} → Settings → List (Entry A) → Record A → Bool → Restored → List (Entry A) → Type 0
Becomes s history stored may Entered after = GoesOnBy history (stored ∷ []) after
Becomes s history stored may LeftOut after = (may ≡ true) × IsRefusedFor s history stored Refused × (after ≡ history)

-- why a record is neither entered nor left out after a history; if it may be left out, the reason is not that it is refused
pub record IsNone {A : Type 0} (s : Settings) (history : List (Entry A)) (stored : Record A) (may : Bool) (refusal : RestoreRefusal) : Type 0 where
  pub why : IsFailure s history stored refusal
  pub kept : may ≡ true → refusal ≢ OfEntry Refused

-- one more, at most the greatest number of 64 bits
abbrev pub one_more_counted : ℕ → ℕ
one_more_counted n = min (n + 1) (2 ^ 64 - 1)

-- the counts after one more record
abbrev pub counted_with : Restoration → Restored → Restoration
counted_with counts Entered = record { entered = one_more_counted counts.entered; left_out = counts.left_out }
counted_with counts LeftOut = record { entered = counts.entered; left_out = one_more_counted counts.left_out }

-- the counts after several more records
abbrev pub all_counted : Restoration → List Restored → Restoration
all_counted counts [] = counts
all_counted counts (o ∷ os) = all_counted (counted_with counts o) os

-- what becomes of records, one after another: they lead from a history to the one after them
abbrev pub BecomeAll : {A : Type 0} → Settings → List (Entry A) → List (Record A) → Bool → List Restored → List (Entry A) → Type 0
BecomeAll s history [] may [] after = after ≡ history
BecomeAll {A} s history (stored ∷ rest) may (o ∷ os) after = (then : List (Entry A)) × Becomes s history stored may o then × BecomeAll s then rest may os after
BecomeAll s history stored may os after = ⊥

-- each record was entered or left out, and counted accordingly
abbrev pub AreTaken : {A : Type 0} → Settings → List (Entry A) → List (Record A) → Bool → Restoration → List (Entry A) → Type 0
AreTaken s history stored may counts after = (os : List Restored) × BecomeAll s history stored may os after × (counts ≡ all_counted (record { entered = 0; left_out = 0 }) os)

-- the records before this one were entered or left out, and this one was neither
pub record StopsTaking {A : Type 0} (s : Settings) (history : List (Entry A)) (stored : List (Record A)) (may : Bool) (fault : RestoreFault) (after : List (Entry A)) : Type 0 where
  pub front : List (Record A)
  pub here : Record A
  pub rest : List (Record A)
  pub parts : stored ≡ front ++ here ∷ rest
  pub number : fault.number ≡ length front + 1
  pub operation : fault.operation ≡ here.request.operation
  pub counts : Restoration
  pub taken : AreTaken s history front may counts after
  pub why : IsNone s after here may fault.refusal
