-- The day that the digits of a DT name is a date of `jiff_core`, and the same day there.
use Rattle.std.proofs.Common.{◌≡◌, ℕ, ◌≤◌, Bool, true, false, cond, List, refl, sym, ap, ◌∙◌, arith, ℤ, pos, ◌-ℤ◌}
use Rattle.std.specs.Prelude.{nat_le, ◌&&◌}
use Rattle.std.proofs.lemmas.Bool.Decides.{nat_tests}
use Rattle.std.specs.Int.{IsInRange}
use Rattle.jiff_core.specs.Calendar.{days_in_month, days_from_civil, IsDate}
use Rattle.jiff_core.proofs.SignedLemmas.{signed_arith}
use Rattle.ups_match.specs.Moments.{field, year_of, month_of, day_of, is_date, date_number}
use Rattle.ups_match.proofs.Calendar.{days_from_civil-day_number, days_of_month-days_in_month}

-- a test that can't be true is false
by_bool : (b : Bool) → (b ≡ true → b ≡ false) → b ≡ false
by_bool true f = f refl
by_bool false f = refl

-- the components of a DT's day, as the code has them
pub record AreOf (digits : List ℕ) (upper : Bool) (year month day : ℕ) : Type 0 where
  pub year_is : year ≡ year_of digits
  pub month_is : month ≡ month_of digits upper
  pub day_is : day ≡ field digits 6 (cond upper (days_in_month (pos year) month) 1)

-- in a month of the calendar the day is that of the definition
day_same : (digits : List ℕ) (upper : Bool) (year month day : ℕ) → AreOf digits upper year month day → 1 ≤ month → month ≤ 12 → day_of digits upper ≡ day
day_same digits upper year month day a low high =
    rw (← a.year_is, ← a.month_is, days_of_month-days_in_month year month low high) (sym a.day_is)

-- the tests on the three numbers
tests : (digits : List ℕ) (upper : Bool) (year month day : ℕ) → AreOf digits upper year month day → 1 ≤ month → month ≤ 12 → is_date digits upper ≡ (nat_le 1 year && (nat_le 1 month && nat_le month 12) && (nat_le 1 day && nat_le day (days_in_month (pos year) month)))
unfolding is_date
tests digits upper year month day a low high =
    rw (day_same digits upper year month day a low high, ← a.year_is, ← a.month_is, days_of_month-days_in_month year month low high)

month_tests : (digits : List ℕ) (upper : Bool) (year month day : ℕ) → AreOf digits upper year month day → is_date digits upper ≡ true → (1 ≤ month) × (month ≤ 12)
unfolding is_date
month_tests digits upper year month day a h =
    let m = a.month_is in
    (grind (arith, nat_tests), grind (arith, nat_tests))

pub no_year : (digits : List ℕ) (upper : Bool) → year_of digits ≡ 0 → is_date digits upper ≡ false
unfolding is_date
no_year digits upper h = rw h

pub is_day : (digits : List ℕ) (upper : Bool) (year month day : ℕ) → AreOf digits upper year month day → 1 ≤ year → 1 ≤ month → month ≤ 12 → 1 ≤ day → day ≤ days_in_month (pos year) month → is_date digits upper ≡ true
is_day digits upper year month day a y low high first last =
    rw (tests digits upper year month day a low high) (grind (arith, nat_tests))

pub no_day : (digits : List ℕ) (upper : Bool) (year month day : ℕ) → AreOf digits upper year month day → 1 ≤ year → year ≤ 9999 → (IsDate (pos year) (pos month) (pos day) → ⊥) → is_date digits upper ≡ false
no_day digits upper year month day a y top not = by_bool (is_date digits upper) (λ h.
    let in_year = month_tests digits upper year month day a h in
    let all = sym (tests digits upper year month day a in_year.0 in_year.1) ∙ h in
    let first : 1 ≤ day = grind (arith, nat_tests) in
    let last : day ≤ days_in_month (pos year) month = grind (arith, nat_tests) in
    absurd (not (omega (arith, signed_arith))))

pub day_value : (digits : List ℕ) (upper : Bool) (year month day : ℕ) → AreOf digits upper year month day → 1 ≤ year → 1 ≤ month → month ≤ 12 → 1 ≤ day → days_from_civil (pos year) month day ≡ pos (date_number digits upper) -ℤ pos 719162
unfolding date_number
day_value digits upper year month day a y low high first =
    rw (day_same digits upper year month day a low high, ← a.year_is, ← a.month_is) (days_from_civil-day_number year month day y low high first)

-- from what the calls of the code give
pub are_of : (digits : List ℕ) (upper : Bool) (year : ℤ) (month day middle last high : ℕ) → year ≡ pos (year_of digits) → month ≡ field digits 4 middle → middle ≡ cond upper 12 1 → last ≡ days_in_month year month → day ≡ field digits 6 high → high ≡ cond upper last 1 → AreOf digits upper (year_of digits) month day
are_of digits upper year month day middle last high y m n l d h = record {
  year_is = refl;
  month_is = m ∙ ap (field digits 4) n;
  day_is = rw (h, l, y) at d;
}

-- a date that was made of the components
pub is_found : (digits : List ℕ) (upper : Bool) (month day : ℕ) (year : ℤ) (m d : ℕ) → AreOf digits upper (year_of digits) month day → 1 ≤ year_of digits → year ≡ pos (year_of digits) → m ≡ month → d ≡ day → IsInRange 1 12 m → IsInRange 1 (days_in_month year m) d → (true ≡ is_date digits upper) × (days_from_civil year m d ≡ pos (date_number digits upper) -ℤ pos 719162)
is_found digits upper month day year m d a some y p q in_year in_month =
    let low : 1 ≤ month = omega arith in
    let high : month ≤ 12 = omega arith in
    let first : 1 ≤ day = omega arith in
    let bound = rw (y, p) at in_month.1 in
    let last : day ≤ days_in_month (pos (year_of digits)) month = omega (arith, bound) in
    (sym (is_day digits upper (year_of digits) month day a some low high first last), rw (y, p, q) (day_value digits upper (year_of digits) month day a some low high first))
