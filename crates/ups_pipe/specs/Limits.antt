-- The limits of the hex form.
use Rattle.std.specs.Prelude.{ℕ}

-- the most white space characters in a row among hex digits
abbrev pub white_space_limit : ℕ
white_space_limit = 1000000
