-- The limits of the encoding of data sets.
use Rattle.std.specs.Prelude.{ℕ}

-- the length field of a value, a sequence or an item of undefined length (PS3.5 section 7.5)
abbrev pub undefined_length : ℕ
undefined_length = 0xffffffff

-- the greatest even length that fits into a field of two bytes (PS3.5 section 7.1.2)
abbrev pub max_short_length : ℕ
max_short_length = 0xfffe

-- the deepest nesting of items
abbrev pub max_depth : ℕ
max_depth = 8
