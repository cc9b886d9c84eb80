-- Dates and times as text: the value representation DT (PS3.5 section 6.2), and the calendar that it names.
use Rattle.std.specs.Prelude.{ℕ, true, ◌+◌, ◌-◌, ◌*◌, ◌/◌, ◌%◌, min, Bool, ◌&&◌, ◌||◌, not, ◌==◌, nat_le, if◌then◌else◌, List, [], ◌∷◌, ◌++◌, length, take, drop, replicate, slice_index_or, Option, None, Some, ℤ, pos, neg_ℤ, ◌+ℤ◌, ◌-ℤ◌, ◌*ℤ◌, ◌≤ℤ◌, unsigned_abs, negsuc}
use Rattle.std.specs.List.{fold, sum, count_by, list_any, list_all, prefix_len, take_while, range_with_len}
use Rattle.std.specs.Char.{is_ascii_digit}
use Rattle.std.specs.Option.{option_map, unwrap_or}

-- The Gregorian calendar (PS3.5 section 6.2, VR DA), also for the years before its introduction.

-- every fourth year is a leap year, but of the years divisible by 100 only every fourth
abbrev pub is_leap : ℕ → Bool
is_leap year = (year % 4 == 0) && (not (year % 100 == 0) || (year % 400 == 0))

-- the number of leap years from the year 1 to the year n
abbrev pub leap_years : ℕ → ℕ
leap_years n = n / 4 - n / 100 + n / 400

-- the number of days in each of the twelve months of a year
abbrev pub months : ℕ → List ℕ
months year = 31 ∷ (if is_leap year then 29 else 28) ∷ 31 ∷ 30 ∷ 31 ∷ 30 ∷ 31 ∷ 31 ∷ 30 ∷ 31 ∷ 30 ∷ 31 ∷ []

-- the number of days in a month from 1 to 12
unfoldable pub days_of_month : ℕ → ℕ → ℕ
days_of_month year month = slice_index_or (months year) (month - 1) 0

-- the number of days from 1 January of the year 1 to a date
unfoldable pub day_number : ℕ → ℕ → ℕ → ℕ
day_number year month day = 365 * (year - 1) + leap_years (year - 1) + sum (take (month - 1) (months year)) + (day - 1)

-- the seconds from the beginning of the year 1 to that of the year 1970
abbrev pub epoch_seconds : ℕ
epoch_seconds = day_number 1970 1 1 * 86400

-- The text of a DT: YYYYMMDDHHMMSS.FFFFFF&ZZXX, possibly truncated from the right.

-- the digits at the front of a text, and the text after them
abbrev pub leading_digits : List ℕ → List ℕ
leading_digits text = take_while is_ascii_digit text

abbrev pub behind_digits : List ℕ → List ℕ
behind_digits text = drop (prefix_len is_ascii_digit text) text

-- the number that digits spell
abbrev pub decimal_value : List ℕ → ℕ
decimal_value digits = fold (λ n digit. 10 * n + (digit - 48)) 0 digits

-- the number of the two digits at a place; `absent` if the text is truncated before it
unfoldable pub field : List ℕ → ℕ → ℕ → ℕ
field digits place absent = if nat_le (place + 2) (length digits) then decimal_value (take 2 (drop place digits)) else absent

-- the components, from the digits before any fraction or offset; an absent one takes its greatest or its least value
abbrev pub year_of : List ℕ → ℕ
year_of digits = decimal_value (take 4 digits)

abbrev pub month_of : List ℕ → Bool → ℕ
month_of digits upper = field digits 4 (if upper then 12 else 1)

abbrev pub day_of : List ℕ → Bool → ℕ
day_of digits upper = field digits 6 (if upper then days_of_month (year_of digits) (month_of digits upper) else 1)

abbrev pub hour_of : List ℕ → Bool → ℕ
hour_of digits upper = field digits 8 (if upper then 23 else 0)

abbrev pub minute_of : List ℕ → Bool → ℕ
minute_of digits upper = field digits 10 (if upper then 59 else 0)

abbrev pub second_of : List ℕ → Bool → ℕ
second_of digits upper = field digits 12 (if upper then 59 else 0)

-- the digits end after a component
abbrev pub is_cut : List ℕ → Bool
is_cut digits = list_any (λ n. length digits == n) (4 ∷ 6 ∷ 8 ∷ 10 ∷ 12 ∷ 14 ∷ [])

-- the date exists in the calendar
unfoldable pub is_date : List ℕ → Bool → Bool
is_date digits upper =
    nat_le 1 (year_of digits)
    && (nat_le 1 (month_of digits upper) && nat_le (month_of digits upper) 12)
    && (nat_le 1 (day_of digits upper) && nat_le (day_of digits upper) (days_of_month (year_of digits) (month_of digits upper)))

-- the number of days before the date, from the year 1 on
unfoldable pub date_number : List ℕ → Bool → ℕ
date_number digits upper = day_number (year_of digits) (month_of digits upper) (day_of digits upper)

-- the time exists in a day; the second 60 is the leap second
unfoldable pub is_time : List ℕ → Bool → Bool
is_time digits upper = nat_le (hour_of digits upper) 23 && nat_le (minute_of digits upper) 59 && nat_le (second_of digits upper) 60

-- the second of the day; a leap second is read as the second before it
unfoldable pub second_of_day : List ℕ → Bool → ℕ
second_of_day digits upper = (hour_of digits upper * 60 + minute_of digits upper) * 60 + min (second_of digits upper) 59

-- the digits after a full stop, if there is one at the front, and the text after them
abbrev pub split_fraction : List ℕ → Option (List ℕ) × List ℕ
split_fraction [] = (None, [])
split_fraction (mark ∷ rest) = if mark == 46 then (Some (leading_digits rest), behind_digits rest) else (None, mark ∷ rest)

-- a fraction has one to six digits, and follows the seconds
abbrev pub is_fraction : Bool → Option (List ℕ) → Bool
is_fraction whole None = true
is_fraction whole (Some digits) = whole && nat_le 1 (length digits) && nat_le (length digits) 6

-- the microseconds of a fraction: missing ones of the six digits are all 9 or all 0
unfoldable pub microsecond_of : Option (List ℕ) → Bool → ℕ
microsecond_of fraction upper = decimal_value (take 6 (unwrap_or fraction [] ++ replicate 6 (if upper then 57 else 48)))

-- the minutes east of UTC of a sign, hours and minutes: from -1200 to +1400; after a truncated text, a minus is not the
-- sign of an offset
unfoldable pub signed_offset : Bool → ℕ → ℕ → ℕ → Option ℤ
signed_offset whole sign hours minutes =
    if (sign == 43) && nat_le minutes 59 && nat_le (60 * hours + minutes) 840 then Some (pos (60 * hours + minutes))
    else if (sign == 45) && whole && nat_le minutes 59 && nat_le (60 * hours + minutes) 720 then Some (neg_ℤ (pos (60 * hours + minutes)))
    else None

-- four digits, ZZXX
abbrev pub are_four_digits : List ℕ → Bool
are_four_digits text = (length text == 4) && list_all is_ascii_digit text

-- the offset of a suffix &ZZXX, or the configured one if there is no suffix
unfoldable pub offset_of : Bool → ℤ → List ℕ → Option ℤ
offset_of whole configured [] = Some configured
offset_of whole configured (sign ∷ digits) =
    if are_four_digits digits then signed_offset whole sign (decimal_value (take 2 digits)) (decimal_value (drop 2 digits)) else None

-- the first moment that a DT names, or the last one (`upper`), in microseconds since the beginning of 1970 in UTC;
-- `configured` is the offset, in minutes east of UTC, of a text that states none
unfoldable pub moment : List ℕ → ℤ → Bool → Option ℤ
moment text configured upper =
    let digits = leading_digits text in
    let rest = split_fraction (behind_digits text) in
    let whole = length digits == 14 in
    let second = date_number digits upper * 86400 + second_of_day digits upper in
    if is_cut digits && is_date digits upper && is_time digits upper && is_fraction whole rest.0
    then option_map (λ offset. pos 1_000_000 *ℤ (pos second -ℤ pos epoch_seconds -ℤ pos 60 *ℤ offset) +ℤ pos (microsecond_of rest.0 upper)) (offset_of whole configured rest.1)
    else None

-- A moment as text, in the local time at an offset.

-- an offset in minutes east of UTC, from -1200 to +1400
abbrev pub IsOffset : ℤ → Type 0
IsOffset offset = (neg_ℤ (pos 720) ≤ℤ offset) × (offset ≤ℤ pos 840)

-- the last moment that is written: 9999-12-31, 09:59:59 in UTC, when a clock at +1400 shows the last second of the year
-- 9999
abbrev pub last_moment : ℕ
last_moment = 253402250399

-- a number as two digits, and as four
abbrev pub two_digits : ℕ → List ℕ
two_digits n = (48 + n / 10) ∷ (48 + n % 10) ∷ []

abbrev pub four_digits : ℕ → List ℕ
four_digits n = two_digits (n / 100) ++ two_digits (n % 100)

-- how many of the numbers from 1 to n have a first day that is not after a day
unfoldable pub begun : (ℕ → ℕ) → ℕ → ℕ → ℕ
begun first_day n day = count_by (λ k. nat_le (first_day k) day) (range_with_len 1 n)

-- the year of a day: the number of years that have begun by then
unfoldable pub year_on : ℕ → ℕ
year_on day = begun (λ year. day_number year 1 1) 9999 day

-- the month of a day of a year: the number of its months that have begun by then
unfoldable pub month_on : ℕ → ℕ → ℕ
month_on year day = begun (λ month. day_number year month 1) 12 day

-- a day as YYYYMMDD
unfoldable pub date_stamp : ℕ → List ℕ
date_stamp day =
    let year = year_on day in
    let month = month_on year day in
    four_digits year ++ two_digits month ++ two_digits (day - day_number year month 1 + 1)

-- a second of a day as HHMMSS
unfoldable pub time_stamp : ℕ → List ℕ
time_stamp second = two_digits (second / 3600) ++ two_digits (second / 60 % 60) ++ two_digits (second % 60)

-- the sign of an offset; a plus also for UTC
abbrev pub sign_of : ℤ → ℕ
sign_of (pos n) = 43
sign_of (negsuc n) = 45

-- an offset as &ZZXX
unfoldable pub offset_stamp : ℤ → List ℕ
offset_stamp offset = sign_of offset ∷ two_digits (unsigned_abs offset / 60) ++ two_digits (unsigned_abs offset % 60)

-- a moment, in seconds since the beginning of 1970 in UTC, as a DT in the local time at an offset: YYYYMMDDHHMMSS&ZZXX
unfoldable pub stamp : ℕ → ℤ → List ℕ
stamp moment offset =
    let local = unsigned_abs (pos (moment + epoch_seconds) +ℤ pos 60 *ℤ offset) in
    date_stamp (local / 86400) ++ time_stamp (local % 86400) ++ offset_stamp offset
