-- How many entries may be in memory.
use Rattle.std.specs.Prelude.{◌≤◌, ◌+◌, ◌-◌, ◌⊎◌, ℕ, length}
use Rattle.ups_history.specs.View.{HistoryView}
use Rattle.ups_life.specs.declared.request.Request.{Request}
use Rattle.ups_life.specs.declared.request.Request.TheVariants.{Ack, Unsubscribe, Suspend, Sweep, Reserve}
use Rattle.ups_life.specs.Limits.{history_limit}
use Rattle.ups_life.specs.Settings.{Settings}

-- the number of entries of a history that are in memory
abbrev pub in_memory : {A : Type 0} → HistoryView A → ℕ
in_memory h = length h.entries - h.first + length h.kept

-- the most entries in memory for which a request is entered that makes room, ends subscriptions, or was entered before
abbrev pub most_again : ℕ
most_again = 1100000

-- the number of entries in memory with which a request that is asked for is no longer entered
abbrev pub most_for : {A : Type 0} → Request A → ℕ
most_for (Ack upto) = most_again
most_for (Unsubscribe target receiver) = most_again
most_for (Suspend receiver) = most_again
most_for Sweep = most_again
most_for (Reserve step) = most_again
most_for request = history_limit

-- no room is left for the request: the history has as many entries as it may have, or as many are in memory
abbrev pub IsFullFor : {A : Type 0} → Settings → HistoryView A → Request A → Type 0
IsFullFor s h request = (s.limit ≤ length h.entries) ⊎ (most_for request ≤ in_memory h)
