-- A history that is compacted while it grows, and the log of all that was entered. Histories here have their newest entry first.
use Rattle.std.specs.Prelude.{◌≡◌, ℕ, Bool, true, ◌&&◌, List, [], ◌∷◌}
use Rattle.ups_life.specs.declared.entry.Entry.{Entry}
use Rattle.ups_life.specs.Settings.{Settings}
use Rattle.ups_life.specs.Steps.{past}
use Rattle.ups_life.specs.History.{legal}
use Rattle.ups_compact.specs.Compacting.{compacted_for, steps_needed}
use Rattle.ups_compact.specs.Shifting.{lifted}
pub use Rattle.ups_compact.specs.declared.turn.Turn.{Turn}
pub use Rattle.ups_compact.specs.declared.turn.Turn.TheVariants.{Entered, Compacted}

-- THE HISTORY that is left: each compaction is for the steps needed
abbrev pub kept_of : {A : Type 0} → Settings → List (Turn A) → List (Entry A)
kept_of s [] = []
kept_of s (Entered e ∷ turns) = e ∷ kept_of s turns
kept_of s (Compacted caller moment ∷ turns) = compacted_for caller moment s (steps_needed s (kept_of s turns)) (kept_of s turns)

-- THE LOG: all that was entered, as if nothing had been compacted; an acknowledgement has the number that its event has there
-- (PS3.4 CC.2.4)
abbrev pub log_of : {A : Type 0} → Settings → List (Turn A) → List (Entry A)
log_of s [] = []
log_of s (Entered e ∷ turns) = lifted s (kept_of s turns) (log_of s turns) e ∷ log_of s turns
log_of s (Compacted caller moment ∷ turns) = log_of s turns

-- each entry was accepted by the history that was left then
abbrev pub is_course : {A : Type 0} → Settings → List (Turn A) → Bool
is_course s [] = true
is_course s (turn ∷ turns) = legal s (kept_of s (turn ∷ turns)) && is_course s turns

-- these settings, but with so many entries at most in a history
abbrev pub with_limit : ℕ → Settings → Settings
with_limit limit s = record { peers = s.peers; keep = s.keep; offset = s.offset; limit = limit }

-- THE HISTORY IS LEFT OF THE LOG. Both have their oldest entry first.
pub record IsLeftOf {A : Type 0} (s : Settings) (by log : List (Entry A)) : Type 0 where
  pub turns : List (Turn A)
  pub course : is_course s turns ≡ true
  pub kept : by ≡ past (kept_of s turns)
  pub all : log ≡ past (log_of s turns)
