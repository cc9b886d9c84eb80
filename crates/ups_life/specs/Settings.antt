-- The settings, which are fixed at the start.
use Rattle.std.specs.Prelude.{ℕ, ◌≤◌, ℤ, List}
pub use Rattle.ups_match.specs.Moments.{IsOffset}
use Rattle.ups_life.specs.declared.peer.Peer.{Peer}
use Rattle.ups_life.specs.Limits.{last_moment}

-- the peers, how long a finished step is kept (in seconds), the offset of the local time from UTC (in minutes, positive
-- to the east: PS3.5 section 6.2), and how many requests the history may have
pub record Settings : Type 0 where
  pub peers : List Peer
  pub keep : ℕ
  pub offset : ℤ
  pub limit : ℕ

-- a moment whose date is in a year up to 9999 in each offset
abbrev pub IsMoment : ℕ → Type 0
IsMoment moment = moment ≤ last_moment
