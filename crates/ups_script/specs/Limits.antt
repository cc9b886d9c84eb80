-- The limit of a script.
use Rattle.std.specs.Prelude.{ℕ}

-- the greatest number of lines in a script
abbrev pub max_lines : ℕ
max_lines = 1000000
