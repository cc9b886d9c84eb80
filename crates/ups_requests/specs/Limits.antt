-- The limit of a line.
use Rattle.std.specs.Prelude.{ℕ}

-- the greatest number of bytes of a line, without its line feed
abbrev pub max_line : ℕ
max_line = 16777216
