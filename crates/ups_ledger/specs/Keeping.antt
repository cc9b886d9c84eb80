-- The part of the history of a desk that a ledger has.
use Rattle.std.specs.Prelude.{◌≡◌, ◌≢◌, ◌≤◌, ◌++◌, ⊤, ℕ, List, length, map, take, drop, All, IfOk, Option, None, Some}
use Rattle.std.specs.Global.{Global}
use Rattle.ups_life.specs.declared.entry.Entry.{Entry}
use Rattle.ups_journal.specs.declared.record.Record.{Record}
use Rattle.ups_journal.specs.Columns.{recorded}
use Rattle.ups_ledger.specs.declared.keeper.Keeper.{Keeper}
use Rattle.ups_ledger.specs.declared.ledger.Ledger.{Ghosts}
use Rattle.ups_ledger.specs.declared.recorder.Recorder.{Recorder}
use Rattle.ups_turn.specs.Pass.{PassView, SamePass}

-- the recorder takes down the records of a history, unless it fails: those of its entries from the place `from` on, at most
-- `most`
pub record TakesDown {A : Type 0} (old : Recorder A) (history : List (Entry A)) (new : Recorder A) : Type 0 where
  pub from : new.from ≡ old.from
  pub most : new.most ≡ old.most
  pub records : IfOk new.records (λ records. records.items ≡ map recorded (take old.most (drop old.from history)))

-- the records are those of the first `count` entries of the history
pub record AreFirst {A : Type 0} (records : List (Record A)) (history : List (Entry A)) (count : ℕ) : Type 0 where
  pub there : count ≤ length history
  pub are : records ≡ map recorded (take count history)

-- the pass has seen what others entered in the meantime, and has entered nothing; each look was one of its calls
pub record HasWatched {A : Type 0} (old new : PassView A) : Type 0 where
  pub same : SamePass old new
  pub calls : old.calls ≤ new.calls
  pub between : List (Entry A)
  pub others : All (λ (e : Entry A). e.caller ≢ old.number) between
  pub seen : new.seen ≡ old.seen ++ between

module _ {L : Type 0} (g : Ghosts L) where
  -- if the ledger is sound, it has the records of the first entries of the history, as many as are committed
  abbrev pub IsKept : Keeper L g → List (Entry Global) → Type 0
  IsKept keeper history = g.is_sound keeper.ledger → AreFirst (g.kept keeper.ledger) history keeper.committed

  -- A crash would leave the records of the first entries of the history, at least as many as are committed, if the ledger was
  -- never opened anew; so also after calls that failed.
  abbrev pub LeavesFirst : L → List (Entry Global) → ℕ → Type 0
  LeavesFirst ledger history committed = g.is_first ledger → (rs : List (Record Global)) → g.recovers ledger rs → (n : ℕ) × (committed ≤ n) × AreFirst rs history n

  abbrev pub IsSafe : Keeper L g → List (Entry Global) → Type 0
  IsSafe keeper history = LeavesFirst keeper.ledger history keeper.committed

  -- The records that the ledger has, and those that a crash would leave, begin with those of what a pass has seen, as far as
  -- that is committed.
  pub record KeepsSeen (keeper : Keeper L g) (seen : List (Entry Global)) : Type 0 where
    pub has : (n : ℕ) → n ≤ keeper.committed → n ≤ length seen → g.is_sound keeper.ledger → take n (g.kept keeper.ledger) ≡ map recorded (take n seen)
    pub leaves : (n : ℕ) → n ≤ keeper.committed → n ≤ length seen → g.is_first keeper.ledger → (rs : List (Record Global)) → g.recovers keeper.ledger rs → take n rs ≡ map recorded (take n seen)

  -- `IsKept`, if a ledger is kept
  abbrev pub AreKept : Option (Keeper L g) → List (Entry Global) → Type 0
  AreKept None history = ⊤
  AreKept (Some keeper) history = IsKept keeper history

  -- `IsSafe`, if a ledger is kept
  abbrev pub AreSafe : Option (Keeper L g) → List (Entry Global) → Type 0
  AreSafe None history = ⊤
  AreSafe (Some keeper) history = IsSafe keeper history

  -- the ledger is sound, if one is kept
  abbrev pub AreSound : Option (Keeper L g) → Type 0
  AreSound None = ⊤
  AreSound (Some keeper) = g.is_sound keeper.ledger

  -- A ledger beside a history that goes on: if it had the first entries, and a crash would have left them, so it is
  -- afterwards; no fewer are committed; and if it is sound afterwards, it was before.
  pub record KeeperGoesOn (old : Keeper L g) (before : List (Entry Global)) (new : Keeper L g) (after : List (Entry Global)) : Type 0 where
    pub kept : IsKept old before → IsKept new after
    pub safe : IsKept old before → IsSafe old before → IsSafe new after
    pub more : old.committed ≤ new.committed
    pub sound : g.is_sound new.ledger → g.is_sound old.ledger

  -- `KeeperGoesOn`, if a ledger is kept
  abbrev pub KeepersGoOn : Option (Keeper L g) → List (Entry Global) → Option (Keeper L g) → List (Entry Global) → Type 0
  KeepersGoOn None before None after = ⊤
  KeepersGoOn None before (Some new) after = ⊥
  KeepersGoOn (Some old) before None after = ⊥
  KeepersGoOn (Some old) before (Some new) after = KeeperGoesOn old before new after
