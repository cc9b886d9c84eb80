-- The held steps, each under its UID, and the UIDs that have been used.
pub use Rattle.ups_steps.specs.Held.{held_at, final_of, put_held}
use Rattle.std.specs.Prelude.{ℕ, Bool, List}
use Rattle.std.specs.List.{list_any}
use Rattle.std.specs.Str.{bytes_eq}

-- u is one of the used UIDs
abbrev pub is_used : List ℕ → List (List ℕ) → Bool
is_used u us = list_any (bytes_eq u) us
