-- A manager as contracts see it.
use Rattle.std.specs.Prelude.{ℕ, List}
use Rattle.ups_life.specs.declared.entry.Entry.{Entry}
use Rattle.ups_life.specs.Settings.{Settings}
use Rattle.ups_service.specs.State.{State}

-- the settings fixed at the start, the accepted requests, oldest first, the number of held steps about which the last query
-- asked a matcher, and the number of the requests before those that are all in memory
pub record ManagerView (A : Type 0) : Type 0 where
  pub settings : Settings
  pub history : List (Entry A)
  pub asked : ℕ
  pub first : ℕ

-- what callers that share a manager see of it
abbrev pub shared_state : {A : Type 0} → ManagerView A → State A
shared_state m = record { settings = m.settings; history = m.history }
