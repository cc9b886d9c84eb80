-- A reader and a writer that remember the outcome of their last call.
use Rattle.std.specs.Prelude.{◌≡◌, ℕ, Bool, List, Option, Result, Ok, Err, ◌==◌, nat_lt, if◌then◌else◌, ◌&&◌}
use Rattle.std.specs.Io.KnownBytes.{IsAtEnd}
use Rattle.ups_session.specs.declared.watched_io.LastRead.{LastRead}
use Rattle.ups_session.specs.declared.watched_io.LastRead.TheVariants.{Gave, Ended, Failed}

-- the bytes that a reader has left, if it says so, and the outcome of the last read
pub record Input : Type 0 where
  pub left : Option (List ℕ)
  pub last : LastRead

-- the bytes that a writer holds, if it says so, and whether the last write failed
pub record Output : Type 0 where
  pub written : Option (List ℕ)
  pub failed : Bool

-- The outcome of a read into `room` bytes: it failed; or it gave nothing although there was room, which is the end of
-- the input.
abbrev pub last_read : {E : Type 0} → Result ℕ E → ℕ → LastRead
last_read (Err e) room = Failed
last_read (Ok n) room = if n == 0 && nat_lt 0 room then Ended else Gave

-- the last read met the end of the input, of which nothing is left if the reader says so
abbrev pub HasEnded : Input → Type 0
HasEnded input = (input.last ≡ Ended) × IsAtEnd input.left
