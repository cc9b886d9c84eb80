-- The limits of a command set.
use Rattle.std.specs.Prelude.{ℕ}

-- The greatest number of attributes that a request lists. The length of its elements then fits in the four bytes of
-- Command Group Length (PS3.7 section 6.3.1), with 256 bytes left for the elements other than the attributes.
abbrev pub max_attributes : ℕ
max_attributes = 0x3fffffbf
