-- The settings with which no manager is made.
use Rattle.std.specs.Prelude.{ℕ, ℤ, nat_lt, ◌==◌, Bool, false, ◌||◌, List, [], ◌∷◌, Option, None, Some, if◌then◌else◌}
use lib.Signed.{lt_z}
use Rattle.std.specs.List.{list_any}
use Rattle.std.specs.Str.{bytes_eq}
use Rattle.ups_life.specs.declared.peer.Peer.{Peer}
use Rattle.ups_life.specs.Limits.{history_limit, least_offset, greatest_offset}
use Rattle.ups_settings.specs.declared.fault.ManagerFault.{ManagerFault}
use Rattle.ups_settings.specs.declared.fault.ManagerFault.TheVariants.{TwicePeer, BadLimit, BadOffset}

-- one of these peers has this title
abbrev pub is_named : List ℕ → List Peer → Bool
is_named ae peers = list_any (λ p. bytes_eq p.ae ae) peers

-- two of these peers have the same title
abbrev pub is_twice : List Peer → Bool
is_twice [] = false
is_twice (p ∷ ps) = is_named p.ae ps || is_twice ps

-- the limit of a history is 0, or above the limit of all histories
abbrev pub is_bad_limit : ℕ → Bool
is_bad_limit limit = (limit == 0) || nat_lt history_limit limit

-- an offset, in minutes, is not from 12 hours west of UTC to 14 hours east of it (PS3.5 section 6.2, DT)
abbrev pub is_bad_offset : ℤ → Bool
is_bad_offset offset = lt_z offset least_offset || lt_z greatest_offset offset

-- the first fault of the settings
abbrev pub refusal : List Peer → ℤ → ℕ → Option ManagerFault
refusal peers offset limit =
    if is_twice peers then Some TwicePeer else (
    if is_bad_limit limit then Some BadLimit else (
    if is_bad_offset offset then Some BadOffset else None))
