-- What a manager keeps: a legal history, tables that agree with the definitions on it, an index of the held steps, and in memory
-- what it may still be asked for.
use Rattle.std.specs.Prelude.{◌≡◌, ◌≤◌, ℕ, true, All, Contains, List, length}
use Rattle.std.specs.List.{AllByRecursion}
use Rattle.ups_history.specs.View.{HistoryView, is_in_memory}
use Rattle.ups_life.specs.Limits.{history_limit}
use Rattle.ups_life.specs.declared.entry.Entry.{Entry}
use Rattle.ups_life.specs.Settings.{Settings, IsMoment, IsOffset}
use Rattle.ups_life.specs.Steps.{past}
use Rattle.ups_life.specs.declared.event.Event.{Event}
use Rattle.ups_life.specs.Events.{pending}
use Rattle.ups_tables.specs.HeldSteps.{held_steps}
use Rattle.ups_tables.specs.declared.tables.Tables.{Tables}
use Rattle.ups_tables.specs.Stands.{Stands as TablesStand}
use Rattle.ups_manager.specs.declared.manager.Manager.TheInside.{Inside}
use Rattle.ups_manager.specs.Held.{IsSmallStep}
use Rattle.ups_manager.specs.Indexing.{IsIndexed}

-- the offset is valid, the moments have dates, the tables agree with the legal history, and the held steps are small
pub record ManagerStands {A : Type 0} (s : Settings) (history : List (Entry A)) (t : Tables A) : Type 0 where
  pub offset : IsOffset s.offset
  pub moments : All (λ (e : Entry A). IsMoment e.moment) history
  pub tables : TablesStand s history t
  pub small : AllByRecursion IsSmallStep (held_steps s (past history))

-- the entry of each event that is pending for a watcher is in memory (PS3.4 CC.2.4); so are all entries, unless the history has no end
pub record Remembers {A : Type 0} (s : Settings) (h : HistoryView A) : Type 0 where
  pub within : h.first ≤ length h.entries
  pub told : (w : List ℕ) (x : Event) → Contains (pending s (past h.entries) w) x → is_in_memory h x.entry ≡ true
  pub all : s.limit ≤ history_limit → h.first ≡ 0

abbrev pub IsKeptInside : {A : Type 0} → Inside A → Type 0
IsKeptInside m = ManagerStands m.configuration m.history.entries m.tables × IsIndexed m.configuration (past m.history.entries) m.index × Remembers m.configuration m.history
