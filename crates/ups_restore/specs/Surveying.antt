-- What a compaction needs to know of a manager that has entered all records.
use Rattle.std.specs.Prelude.{◌≡◌, ℕ, pos, List, [], ◌∷◌, length, map}
use Rattle.std.specs.Global.{Global}
use Rattle.ups_life.specs.declared.entry.Entry.{Entry}
use Rattle.ups_life.specs.declared.peer.Peer.{Peer}
use Rattle.ups_life.specs.Settings.{Settings}
use Rattle.ups_life.specs.Steps.{past}
use Rattle.ups_life.specs.Events.{events, acked}
use Rattle.ups_service.specs.Law.{is_legal}
use Rattle.ups_manager.specs.View.{ManagerView}
use Rattle.ups_restore.specs.declared.survey.EventCount.{EventCount}

-- how many events were made for w, and the number of the last one that w has acknowledged (PS3.4 CC.2.4)
abbrev pub count_in : {A : Type 0} → Settings → List (Entry A) → List ℕ → EventCount
count_in s es w = record { ae = w; made = length (events s es w); acknowledged = acked es w }

-- the same of each of these peers
abbrev pub counts_in : {A : Type 0} → Settings → List (Entry A) → List Peer → List EventCount
counts_in s es ps = map (λ (p : Peer). count_in s es p.ae) ps

-- the manager that only contracts see; one without peers and history if there is none
abbrev pub surveyed_in : List (ManagerView Global × Unit {0}) → ManagerView Global
surveyed_in [] = record { settings = record { peers = []; keep = 0; offset = pos 0; limit = 0 }; history = []; asked = 0; first = 0 }
surveyed_in (x ∷ xs) = x.0

-- these are the numbers of the manager's entries and of each watcher's events
pub record IsSurveyOf (entries : ℕ) (counts : List EventCount) (manager : ManagerView Global) : Type 0 where
  pub entries_are : entries ≡ length manager.history
  pub counts_are : counts ≡ counts_in manager.settings (past manager.history) manager.settings.peers
  pub legal : is_legal manager.settings manager.history
