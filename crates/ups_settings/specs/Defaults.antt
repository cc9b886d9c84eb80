-- The defaults of the settings.
use Rattle.std.specs.Prelude.{ℕ, ℤ, pos}

-- the least number of seconds for which a finished step is kept
abbrev pub keep_seconds : ℕ
keep_seconds = 60

-- the offset of the local time from UTC, in minutes
abbrev pub local_offset : ℤ
local_offset = pos 0
