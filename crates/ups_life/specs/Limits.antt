-- The limits of the service.
use Rattle.std.specs.Prelude.{ℕ, ℤ, pos, negsuc}
-- the greatest moment, in seconds since 1970-01-01 UTC
pub use Rattle.ups_match.specs.Moments.{last_moment}

-- the limit on the bytes of a row after an N-CREATE, an N-SET or a cancel request, in Explicit VR Little Endian
abbrev pub row_limit : ℕ
row_limit = 1048576

-- the greatest number of requests in a history
abbrev pub history_limit : ℕ
history_limit = 1000000

-- the greatest number of peers
abbrev pub peer_limit : ℕ
peer_limit = 1000

-- the range of offsets of a local time from UTC, in minutes: 12 hours west to 14 hours east (PS3.5 section 6.2, DT)
abbrev pub least_offset : ℤ
least_offset = negsuc 719

abbrev pub greatest_offset : ℤ
greatest_offset = pos 840
