-- What a stamp is read as.
use Rattle.std.proofs.Common.{◌≡◌, ℕ, suc, ◌+◌, ◌-◌, ◌*◌, ◌/◌, ◌%◌, ◌<◌, ◌≤◌, true, false, List, [], ◌∷◌, ◌++◌, take, drop, refl, sym, ap, ◌∙◌, arith, Some, None, ℤ, pos, negsuc, neg_ℤ, ◌+ℤ◌, ◌-ℤ◌, ◌*ℤ◌, ◌≤ℤ◌, unsigned_abs}
use Rattle.std.specs.Prelude.{nat_le}
use Rattle.std.specs.List.{prefix_len, list_all}
use Rattle.std.specs.Char.{is_ascii_digit}
use Rattle.std.proofs.lemmas.Bool.Decides.{nat_tests}
use Rattle.jiff_core.proofs.SignedLemmas.{signed_arith}
use Rattle.jiff_core.proofs.CalendarLemmas.{days_in_month_bounds}
use Rattle.ups_match.specs.Moments.{moment, IsOffset, stamp, last_moment, leading_digits, behind_digits, decimal_value, field, year_of, is_date, is_time, date_number, second_of_day, split_fraction, microsecond_of, offset_of, signed_offset, are_four_digits, two_digits, four_digits, date_stamp, time_stamp, offset_stamp, sign_of, day_number, year_on, month_on}
use Rattle.ups_match.proofs.Begun.{IsReal}
use Rattle.ups_match.proofs.Existing.{has_date}
use Rattle.ups_match.proofs.Days.{AreOf, is_day}
use Rattle.ups_match.proofs.Combining.{some_moment, epoch_is}

-- each byte is a digit
abbrev AllDigits : List ℕ → Type 0
AllDigits [] = Unit {0}
AllDigits (b ∷ bs) = (is_ascii_digit b ≡ true) × AllDigits bs

digit : (n : ℕ) → n < 10 → is_ascii_digit (48 + n) ≡ true
digit n h = grind (arith, nat_tests)

two_all : (n : ℕ) → n ≤ 99 → AllDigits (two_digits n)
two_all n h = (digit (n / 10) (omega arith), (digit (n % 10) (omega arith), tt))

all_append : (xs ys : List ℕ) → AllDigits xs → AllDigits ys → AllDigits (xs ++ ys)
all_append [] ys p q = q
all_append (x ∷ xs) ys p q = (p.0, all_append xs ys p.1 q)

all_list : (xs : List ℕ) → AllDigits xs → list_all is_ascii_digit xs ≡ true
all_list [] p = refl
all_list (x ∷ xs) p = rw (p.0, all_list xs p.1)

front : (digits : List ℕ) (sign : ℕ) (rest : List ℕ) → AllDigits digits → is_ascii_digit sign ≡ false → (digits ≡ leading_digits (digits ++ sign ∷ rest)) × (sign ∷ rest ≡ behind_digits (digits ++ sign ∷ rest))
front [] sign rest p h = (rw h, rw h)
front (x ∷ xs) sign rest p h =
    let rest_of = front xs sign rest p.1 h in
    let one : 1 + prefix_len is_ascii_digit (xs ++ sign ∷ rest) ≡ suc (prefix_len is_ascii_digit (xs ++ sign ∷ rest)) = omega arith in
    (rw (p.0, one) (ap (λ ys. x ∷ ys) rest_of.0), rw (p.0, one) rest_of.1)

-- the fourteen digits of a date and time
abbrev fourteen : ℕ → ℕ → ℕ → ℕ → ℕ → ℕ → List ℕ
fourteen year month day hour minute second = four_digits year ++ two_digits month ++ two_digits day ++ (two_digits hour ++ two_digits minute ++ two_digits second)

fourteen_all : (year month day hour minute second : ℕ) → year ≤ 9999 → month ≤ 99 → day ≤ 99 → hour ≤ 99 → minute ≤ 99 → second ≤ 99 → AllDigits (fourteen year month day hour minute second)
fourteen_all year month day hour minute second y m d h n s =
    (digit ((year / 100) / 10) (omega arith), (digit ((year / 100) % 10) (omega arith), (digit ((year % 100) / 10) (omega arith), (digit ((year % 100) % 10) (omega arith), (digit (month / 10) (omega arith), (digit (month % 10) (omega arith), (digit (day / 10) (omega arith), (digit (day % 10) (omega arith), (digit (hour / 10) (omega arith), (digit (hour % 10) (omega arith), (digit (minute / 10) (omega arith), (digit (minute % 10) (omega arith), (digit (second / 10) (omega arith), (digit (second % 10) (omega arith), tt))))))))))))))

year_back : (year month day hour minute second : ℕ) → year_of (fourteen year month day hour minute second) ≡ year
year_back year month day hour minute second = omega arith

month_back : (year month day hour minute second absent : ℕ) → field (fourteen year month day hour minute second) 4 absent ≡ month
unfolding field
month_back year month day hour minute second absent = omega arith

day_back : (year month day hour minute second absent : ℕ) → field (fourteen year month day hour minute second) 6 absent ≡ day
unfolding field
day_back year month day hour minute second absent = omega arith

hour_back : (year month day hour minute second absent : ℕ) → field (fourteen year month day hour minute second) 8 absent ≡ hour
unfolding field
hour_back year month day hour minute second absent = omega arith

minute_back : (year month day hour minute second absent : ℕ) → field (fourteen year month day hour minute second) 10 absent ≡ minute
unfolding field
minute_back year month day hour minute second absent = omega arith

second_back : (year month day hour minute second absent : ℕ) → field (fourteen year month day hour minute second) 12 absent ≡ second
unfolding field
second_back year month day hour minute second absent = omega arith

date_back : (year month day hour minute second : ℕ) → IsReal year month day → true ≡ is_date (fourteen year month day hour minute second) false
date_back year month day hour minute second r =
    let a : AreOf (fourteen year month day hour minute second) false year month day = record {
      year_is = sym (year_back year month day hour minute second);
      month_is = sym (month_back year month day hour minute second 1);
      day_is = sym (day_back year month day hour minute second 1);
    } in
    sym (is_day _ false year month day a r.begins r.in_year.0 r.in_year.1 r.in_month.0 r.in_month.1)

number_back : (year month day hour minute second : ℕ) → date_number (fourteen year month day hour minute second) false ≡ day_number year month day
unfolding date_number
number_back year month day hour minute second = rw (year_back year month day hour minute second, month_back year month day hour minute second 1, day_back year month day hour minute second 1)

time_back : (year month day hour minute second : ℕ) → hour ≤ 23 → minute ≤ 59 → second ≤ 59 → true ≡ is_time (fourteen year month day hour minute second) false
unfolding is_time
time_back year month day hour minute second h n s =
    rw (hour_back year month day hour minute second 0, minute_back year month day hour minute second 0, second_back year month day hour minute second 0) (grind (arith, nat_tests))

clock_back : (year month day hour minute second : ℕ) → second ≤ 59 → second_of_day (fourteen year month day hour minute second) false ≡ (hour * 60 + minute) * 60 + second
unfolding second_of_day
clock_back year month day hour minute second s =
    rw (hour_back year month day hour minute second 0, minute_back year month day hour minute second 0, second_back year month day hour minute second 0) (omega arith)

-- the offset
zone_back : (configured : ℤ) (sign hours minutes : ℕ) → hours ≤ 99 → minutes ≤ 99 → offset_of true configured (sign ∷ two_digits hours ++ two_digits minutes) ≡ signed_offset true sign hours minutes
unfolding offset_of
zone_back configured sign hours minutes h m =
    let four : are_four_digits (two_digits hours ++ two_digits minutes) ≡ true = all_list (two_digits hours ++ two_digits minutes) (all_append (two_digits hours) (two_digits minutes) (two_all hours h) (two_all minutes m)) in
    let front_half : decimal_value (take 2 (two_digits hours ++ two_digits minutes)) ≡ hours = omega arith in
    let back_half : decimal_value (drop 2 (two_digits hours ++ two_digits minutes)) ≡ minutes = omega arith in
    rw (four, front_half, back_half)

plus : (k : ℕ) → k ≤ 840 → signed_offset true 43 (k / 60) (k % 60) ≡ Some (pos k)
unfolding signed_offset
plus k h =
    let whole : 60 * (k / 60) + k % 60 ≡ k = omega arith in
    let minutes : nat_le (k % 60) 59 ≡ true = grind (arith, nat_tests) in
    let fits : nat_le k 840 ≡ true = grind (arith, nat_tests) in
    rw (whole, minutes, fits)

minus : (k : ℕ) → k ≤ 720 → signed_offset true 45 (k / 60) (k % 60) ≡ Some (neg_ℤ (pos k))
unfolding signed_offset
minus k h =
    let whole : 60 * (k / 60) + k % 60 ≡ k = omega arith in
    let minutes : nat_le (k % 60) 59 ≡ true = grind (arith, nat_tests) in
    let fits : nat_le k 720 ≡ true = grind (arith, nat_tests) in
    rw (whole, minutes, fits)

offset_back : (configured offset : ℤ) → IsOffset offset → Some offset ≡ offset_of true configured (offset_stamp offset)
unfolding offset_stamp
offset_back configured (pos k) h = sym (zone_back configured 43 (k / 60) (k % 60) (omega (arith, signed_arith)) (omega arith) ∙ plus k (omega (arith, signed_arith)))
offset_back configured (negsuc k) h = sym (zone_back configured 45 (suc k / 60) (suc k % 60) (omega (arith, signed_arith)) (omega arith) ∙ minus (suc k) (omega (arith, signed_arith)))

no_fraction : (offset : ℤ) → (offset_stamp offset ≡ (split_fraction (offset_stamp offset)).1) × (None ≡ (split_fraction (offset_stamp offset)).0)
unfolding offset_stamp
no_fraction (pos k) = (refl, refl)
no_fraction (negsuc k) = (refl, refl)

no_digit : (offset : ℤ) → is_ascii_digit (sign_of offset) ≡ false
no_digit (pos k) = refl
no_digit (negsuc k) = refl

parts : (count clock : ℕ) (offset : ℤ) → date_stamp count ++ time_stamp clock ++ offset_stamp offset ≡ fourteen (year_on count) (month_on (year_on count) count) (count - day_number (year_on count) (month_on (year_on count) count) 1 + 1) (clock / 3600) (clock / 60 % 60) (clock % 60) ++ offset_stamp offset
unfolding date_stamp time_stamp offset_stamp
parts count clock offset = refl

-- a date and time of the calendar with an offset
local_back : (year month day clock count local : ℕ) (offset configured : ℤ) → IsReal year month day → day_number year month day ≡ count → clock < 86400 → local ≡ count * 86400 + clock → IsOffset offset → moment (fourteen year month day (clock / 3600) (clock / 60 % 60) (clock % 60) ++ offset_stamp offset) configured false ≡ Some (pos 1_000_000 *ℤ (pos local -ℤ pos 62135596800 -ℤ pos 60 *ℤ offset) +ℤ pos 0)
unfolding offset_stamp microsecond_of
local_back year month day clock count local offset configured r c clocks l o =
    let month_small : month ≤ 99 = omega (arith, r.in_year.1) in
    let day_small : day ≤ 99 = omega (arith, r.in_month.1, days_in_month_bounds (pos year) month) in
    let sides = front (fourteen year month day (clock / 3600) (clock / 60 % 60) (clock % 60)) (sign_of offset) (two_digits (unsigned_abs offset / 60) ++ two_digits (unsigned_abs offset % 60)) (fourteen_all year month day (clock / 3600) (clock / 60 % 60) (clock % 60) r.ends month_small day_small (omega arith) (omega arith) (omega arith)) (no_digit offset) in
    let date = date_back year month day (clock / 3600) (clock / 60 % 60) (clock % 60) r in
    let time = time_back year month day (clock / 3600) (clock / 60 % 60) (clock % 60) (omega arith) (omega arith) (omega arith) in
    let none = no_fraction offset in
    let digits = fourteen year month day (clock / 3600) (clock / 60 % 60) (clock % 60) in
    some_moment (digits ++ offset_stamp offset) configured false digits (offset_stamp offset) (offset_stamp offset) (pos local -ℤ pos 62135596800) offset 0
    sides.0 sides.1 (rw (← date, ← time)) (rw (← none.1)) none.0 (offset_back configured offset o)
    (ap (λ k. pos k -ℤ pos 62135596800) (omega (arith, number_back year month day (clock / 3600) (clock / 60 % 60) (clock % 60), clock_back year month day (clock / 3600) (clock / 60 % 60) (clock % 60) (omega arith))))
    (rw (← none.1))

stamp_is : (second : ℕ) (offset : ℤ) (local : ℕ) → local ≡ unsigned_abs (pos (second + 62135596800) +ℤ pos 60 *ℤ offset) → stamp second offset ≡ date_stamp (local / 86400) ++ time_stamp (local % 86400) ++ offset_stamp offset
unfolding stamp
stamp_is second offset local l = rw (epoch_is, ← l)

from_zero : (z : ℤ) → pos 0 ≤ℤ z → pos (unsigned_abs z) ≡ z
from_zero (pos n) h = refl
from_zero (negsuc n) h = absurd (omega (arith, signed_arith))

pub read_back : (second : ℕ) (offset configured : ℤ) → second ≤ last_moment → IsOffset offset → moment (stamp second offset) configured false ≡ Some (pos (second * 1000000))
read_back second offset configured h o =
    let local = unsigned_abs (pos (second + 62135596800) +ℤ pos 60 *ℤ offset) in
    let same : pos local ≡ pos (second + 62135596800) +ℤ pos 60 *ℤ offset = from_zero (pos (second + 62135596800) +ℤ pos 60 *ℤ offset) (omega (arith, signed_arith)) in
    let d = has_date (local / 86400) (omega (arith, signed_arith)) in
    rw (stamp_is second offset local refl, parts (local / 86400) (local % 86400) offset, local_back _ _ _ (local % 86400) (local / 86400) local offset configured d.real d.number (omega arith) (omega arith) o) (ap Some (omega (arith, signed_arith)))
