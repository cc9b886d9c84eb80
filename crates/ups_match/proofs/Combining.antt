-- What a text is read as, from what its parts are read as.
use Rattle.std.proofs.Common.{◌≡◌, ℕ, ◌+◌, ◌*◌, Bool, true, false, cond, eqb, List, length, refl, Some, None, ℤ, pos, ◌+ℤ◌, ◌-ℤ◌, ◌*ℤ◌}
use Rattle.std.specs.Prelude.{◌&&◌}
use Rattle.std.specs.Option.{option_map}
use Rattle.ups_match.specs.Moments.{moment, leading_digits, behind_digits, is_cut, is_date, is_time, date_number, second_of_day, split_fraction, is_fraction, microsecond_of, offset_of, epoch_seconds, day_number}

abbrev are_parts : List ℕ → List ℕ → Bool → Bool
are_parts digits behind upper =
    is_cut digits && is_date digits upper && is_time digits upper && is_fraction (eqb (length digits) 14) (split_fraction behind).0

moment_parts : (text : List ℕ) (configured : ℤ) (upper : Bool) (digits behind : List ℕ) → digits ≡ leading_digits text → behind ≡ behind_digits text → moment text configured upper ≡ cond (are_parts digits behind upper) (option_map (λ offset. pos 1_000_000 *ℤ (pos (date_number digits upper * 86400 + second_of_day digits upper) -ℤ pos epoch_seconds -ℤ pos 60 *ℤ offset) +ℤ pos (microsecond_of (split_fraction behind).0 upper)) (offset_of (eqb (length digits) 14) configured (split_fraction behind).1)) None
unfolding moment
moment_parts text configured upper digits behind d b = rw (d, b)

pub none_second : (text : List ℕ) (configured : ℤ) (upper : Bool) (digits behind : List ℕ) → digits ≡ leading_digits text → behind ≡ behind_digits text → false ≡ (is_cut digits && is_date digits upper && is_time digits upper) → moment text configured upper ≡ None
none_second text configured upper digits behind d b h = rw (moment_parts text configured upper digits behind d b, ← h)

pub none_fraction : (text : List ℕ) (configured : ℤ) (upper : Bool) (digits behind : List ℕ) → digits ≡ leading_digits text → behind ≡ behind_digits text → true ≡ (is_cut digits && is_date digits upper && is_time digits upper) → false ≡ is_fraction (eqb (length digits) 14) (split_fraction behind).0 → moment text configured upper ≡ None
none_fraction text configured upper digits behind d b h f = rw (moment_parts text configured upper digits behind d b, ← h, ← f)

pub none_offset : (text : List ℕ) (configured : ℤ) (upper : Bool) (digits behind suffix : List ℕ) → digits ≡ leading_digits text → behind ≡ behind_digits text → true ≡ (is_cut digits && is_date digits upper && is_time digits upper) → true ≡ is_fraction (eqb (length digits) 14) (split_fraction behind).0 → suffix ≡ (split_fraction behind).1 → None ≡ offset_of (eqb (length digits) 14) configured suffix → moment text configured upper ≡ None
none_offset text configured upper digits behind suffix d b h f s o = rw (moment_parts text configured upper digits behind d b, ← h, ← f, ← s, ← o)

pub epoch_is : epoch_seconds ≡ 62135596800
unfolding day_number
epoch_is = refl

pub some_moment : (text : List ℕ) (configured : ℤ) (upper : Bool) (digits behind suffix : List ℕ) (second minutes : ℤ) (microsecond : ℕ) → digits ≡ leading_digits text → behind ≡ behind_digits text → true ≡ (is_cut digits && is_date digits upper && is_time digits upper) → true ≡ is_fraction (eqb (length digits) 14) (split_fraction behind).0 → suffix ≡ (split_fraction behind).1 → Some minutes ≡ offset_of (eqb (length digits) 14) configured suffix → second ≡ pos (date_number digits upper * 86400 + second_of_day digits upper) -ℤ pos 62135596800 → microsecond ≡ microsecond_of (split_fraction behind).0 upper → moment text configured upper ≡ Some (pos 1_000_000 *ℤ (second -ℤ pos 60 *ℤ minutes) +ℤ pos microsecond)
some_moment text configured upper digits behind suffix second minutes microsecond d b h f s o e m =
    rw (moment_parts text configured upper digits behind d b, ← h, ← f, ← s, ← o, epoch_is, ← e, ← m)
