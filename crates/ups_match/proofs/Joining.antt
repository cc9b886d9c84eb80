-- A stamp is its three parts, byte after byte.
use Rattle.std.proofs.Common.{◌≡◌, ℕ, ◌+◌, ◌/◌, ◌%◌, List, [], ◌∷◌, get_or, ℤ, pos, ◌+ℤ◌, ◌*ℤ◌}
use Rattle.ups_match.specs.Moments.{stamp, date_stamp, time_stamp, offset_stamp}
use Rattle.ups_match.proofs.Combining.{epoch_is}

pub stamp_parts : (moment : ℕ) (offset : ℤ) (local : ℕ) (d t z : List ℕ) → d ≡ date_stamp (local / 86400) → t ≡ time_stamp (local % 86400) → z ≡ offset_stamp offset → pos local ≡ pos (moment + 62135596800) +ℤ pos 60 *ℤ offset → get_or d 0 0 ∷ get_or d 1 0 ∷ get_or d 2 0 ∷ get_or d 3 0 ∷ get_or d 4 0 ∷ get_or d 5 0 ∷ get_or d 6 0 ∷ get_or d 7 0 ∷ get_or t 0 0 ∷ get_or t 1 0 ∷ get_or t 2 0 ∷ get_or t 3 0 ∷ get_or t 4 0 ∷ get_or t 5 0 ∷ get_or z 0 0 ∷ get_or z 1 0 ∷ get_or z 2 0 ∷ get_or z 3 0 ∷ get_or z 4 0 ∷ [] ≡ stamp moment offset
unfolding stamp date_stamp time_stamp offset_stamp
stamp_parts moment offset local d t z date time zone l = rw (date, time, zone, epoch_is, ← l)
