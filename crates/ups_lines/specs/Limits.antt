-- The limits of a line.
use Rattle.std.specs.Prelude.{ℕ}

-- the greatest number of items that a line makes
abbrev pub max_items : ℕ
max_items = 131072
