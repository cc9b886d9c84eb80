-- The day numbers of this crate are those of `jiff_core`, counted from another day.
use Rattle.std.proofs.Common.{◌≡◌, ℕ, zero, suc, ◌+◌, ◌-◌, ◌*◌, ◌<◌, ◌≤◌, sum, take, refl, arith, pos, ◌-ℤ◌}
use Rattle.jiff_core.specs.Calendar.{days_of_months, day_count, days_from_civil, days_in_month}
use Rattle.jiff_core.proofs.SignedLemmas.{signed_arith}
use Rattle.jiff_core.proofs.MarchLemmas.{day_count-early}
use Rattle.jiff_core.proofs.CalendarLemmas.{day_count-day_of_year, days_from_civil-day_count}
use Rattle.ups_match.specs.Moments.{months, day_number, days_of_month, leap_years}

-- the days before a month
pub days_of_months-sum : (year n : ℕ) → n < 12 → days_of_months (pos year) n ≡ sum (take n (months year))
unfolding days_of_months
days_of_months-sum year zero h = refl
days_of_months-sum year (suc zero) h = refl
days_of_months-sum year (suc (suc zero)) h = refl
days_of_months-sum year (suc (suc (suc zero))) h = refl
days_of_months-sum year (suc (suc (suc (suc zero)))) h = refl
days_of_months-sum year (suc (suc (suc (suc (suc zero))))) h = refl
days_of_months-sum year (suc (suc (suc (suc (suc (suc zero)))))) h = refl
days_of_months-sum year (suc (suc (suc (suc (suc (suc (suc zero))))))) h = refl
days_of_months-sum year (suc (suc (suc (suc (suc (suc (suc (suc zero)))))))) h = refl
days_of_months-sum year (suc (suc (suc (suc (suc (suc (suc (suc (suc zero))))))))) h = refl
days_of_months-sum year (suc (suc (suc (suc (suc (suc (suc (suc (suc (suc zero)))))))))) h = refl
days_of_months-sum year (suc (suc (suc (suc (suc (suc (suc (suc (suc (suc (suc zero))))))))))) h = refl
days_of_months-sum year (suc (suc (suc (suc (suc (suc (suc (suc (suc (suc (suc (suc n)))))))))))) h = absurd (omega arith)

-- the days before a year of the common era
day_count-january : (n : ℕ) → day_count (pos (suc n)) 1 1 ≡ 365 * n + leap_years n + 3652791
day_count-january n = omega (arith, day_count-early (pos (suc n)) (n + 10000) 1 1 (omega (arith, signed_arith)) (omega arith) (omega arith) (omega arith))

pub day_count-day_number : (year month day : ℕ) → 1 ≤ year → 1 ≤ month → month ≤ 12 → 1 ≤ day → day_count (pos year) month day ≡ day_number year month day + 3652791
unfolding day_number
day_count-day_number zero month day y m n d = absurd (omega arith)
day_count-day_number (suc n) month day y low high d =
    let back : suc n - 1 ≡ n = omega arith in
    rw back (omega (arith, day_count-january n, day_count-day_of_year (pos (suc n)) month day d, days_of_months-sum (suc n) (month - 1) (omega arith)))

pub days_from_civil-day_number : (year month day : ℕ) → 1 ≤ year → 1 ≤ month → month ≤ 12 → 1 ≤ day → days_from_civil (pos year) month day ≡ pos (day_number year month day) -ℤ pos 719162
days_from_civil-day_number year month day y low high d =
    omega (arith, signed_arith, days_from_civil-day_count (pos year) month day, day_count-day_number year month day y low high d)

pub days_of_month-days_in_month : (year month : ℕ) → 1 ≤ month → month ≤ 12 → days_of_month year month ≡ days_in_month (pos year) month
unfolding days_of_month
days_of_month-days_in_month year zero low high = absurd (omega arith)
days_of_month-days_in_month year (suc zero) low high = refl
days_of_month-days_in_month year (suc (suc zero)) low high = refl
days_of_month-days_in_month year (suc (suc (suc zero))) low high = refl
days_of_month-days_in_month year (suc (suc (suc (suc zero)))) low high = refl
days_of_month-days_in_month year (suc (suc (suc (suc (suc zero))))) low high = refl
days_of_month-days_in_month year (suc (suc (suc (suc (suc (suc zero)))))) low high = refl
days_of_month-days_in_month year (suc (suc (suc (suc (suc (suc (suc zero))))))) low high = refl
days_of_month-days_in_month year (suc (suc (suc (suc (suc (suc (suc (suc zero)))))))) low high = refl
days_of_month-days_in_month year (suc (suc (suc (suc (suc (suc (suc (suc (suc zero))))))))) low high = refl
days_of_month-days_in_month year (suc (suc (suc (suc (suc (suc (suc (suc (suc (suc zero)))))))))) low high = refl
days_of_month-days_in_month year (suc (suc (suc (suc (suc (suc (suc (suc (suc (suc (suc zero))))))))))) low high = refl
days_of_month-days_in_month year (suc (suc (suc (suc (suc (suc (suc (suc (suc (suc (suc (suc zero)))))))))))) low high = refl
days_of_month-days_in_month year (suc (suc (suc (suc (suc (suc (suc (suc (suc (suc (suc (suc (suc n))))))))))))) low high = absurd (omega arith)
