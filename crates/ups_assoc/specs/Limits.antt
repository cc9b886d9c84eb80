-- The limits of an association.
use Rattle.std.specs.Prelude.{ℕ}

-- the longest message, its command set and its data set together, in bytes
abbrev pub longest_message : ℕ
longest_message = 1048576
