-- Each day from the year 1 to 9999 has a date.
use Rattle.std.proofs.Common.{◌≡◌, ℕ, zero, suc, ◌+◌, ◌-◌, ◌<◌, ◌≤◌, refl, ap, arith, pos}
use Rattle.jiff_core.specs.Calendar.{days_in_month, day_count}
use Rattle.jiff_core.proofs.SignedLemmas.{signed_arith}
use Rattle.jiff_core.proofs.CalendarLemmas.{day_count-next_month, day_count-next_year, day_count-last_of_year, day_count-day, days_in_month_bounds}
use Rattle.ups_match.specs.Moments.{day_number, year_on, month_on}
use Rattle.ups_match.proofs.Calendar.{day_count-day_number}
use Rattle.ups_match.proofs.Begun.{IsReal, by_order, begun_is, year_begun, month_begun}

-- the last of the numbers 1 to n that has begun by a day
pub record Splits (first_day : ℕ → ℕ) (n day k : ℕ) : Type 0 where
  pub within : k ≤ n
  pub before : (i : ℕ) → 1 ≤ i → i ≤ k → first_day i ≤ day
  pub after : (i : ℕ) → k < i → i ≤ n → day < first_day i

split : (first_day : ℕ → ℕ) (n day : ℕ) → ((i j : ℕ) → 1 ≤ i → i ≤ j → j ≤ n → first_day i ≤ first_day j) → (k : ℕ) × Splits first_day n day k
split first_day zero day rises = (0, record { within = omega arith; before = λ i low high. absurd (omega arith); after = λ i low high. absurd (omega arith) })
split first_day (suc n) day rises = by_order day (first_day (suc n))
    (λ lt.
    let (k, s) = split first_day n day (λ i j low mid high. rises i j low mid (omega arith)) in (
      k,
      record {
        within = omega (arith, s.within);
        before = s.before;
        after = λ i low high. by_order i (suc n) (λ less. s.after i low (omega arith)) (λ more. let same : i ≡ suc n = omega arith in rw same lt);
      },
    ))
    (λ le. (
      suc n,
      record {
        within = omega arith;
        before = λ i low high. omega (arith, rises i (suc n) low high (omega arith));
        after = λ i low high. absurd (omega arith);
      },
    ))

first_rises : (i j : ℕ) → 1 ≤ i → i ≤ j → j ≤ 9999 → day_number i 1 1 ≤ day_number j 1 1
first_rises i j low mid high = year_begun j 1 1 record { begins = omega arith; ends = high; in_year = (omega arith, omega arith); in_month = (omega arith, omega arith) } i low mid

-- the day is before the end of its month
month_ends : (year month : ℕ) → 1 ≤ year → 1 ≤ month → month ≤ 11 → day_number year (suc month) 1 ≡ day_number year month 1 + days_in_month (pos year) month
month_ends year month y low high =
    let next : month + 1 ≡ suc month = omega arith in
    omega (arith, ap (λ m. day_count (pos year) m 1) next, day_count-next_month (pos year) month low, day_count-day_number year (suc month) 1 y (omega arith) (omega arith) (omega arith), day_count-day_number year month 1 y low (omega arith) (omega arith))

december_ends : (year : ℕ) → 1 ≤ year → day_number (suc year) 1 1 ≡ day_number year 12 1 + 31
december_ends year y =
    omega (arith, day_count-next_year (pos year) (pos (suc year)) (omega (arith, signed_arith)) (omega (arith, signed_arith)), day_count-last_of_year (pos year), day_count-day (pos year) 12 31 1 (omega arith) (omega arith), day_count-day_number year 12 1 y (omega arith) (omega arith) (omega arith), day_count-day_number (suc year) 1 1 (omega arith) (omega arith) (omega arith) (omega arith))

end_of_years : day_number 10000 1 1 ≡ 3652059
unfolding day_number
end_of_years = refl

origin : day_number 1 1 1 ≡ 0
unfolding day_number
origin = refl

-- the year and month that a day was found in, with the day of the month
pub record HasDate (count year month day : ℕ) : Type 0 where
  pub real : IsReal year month day
  pub number : day_number year month day ≡ count

split_day : (year month day count : ℕ) → day_number year month 1 ≤ count → day ≡ count - day_number year month 1 + 1 → day_number year month day ≡ count
unfolding day_number
split_day year month day count low d = omega arith

-- the year of a day
pub record InYear (count year : ℕ) : Type 0 where
  pub begins : 1 ≤ year
  pub ends : year ≤ 9999
  pub low : day_number year 1 1 ≤ count
  pub high : count < day_number (suc year) 1 1
  pub said : year_on count ≡ year

in_year : (count : ℕ) → count ≤ 3652058 → (year : ℕ) × InYear count year
unfolding year_on
in_year count top =
    let (year, s) = split (λ y. day_number y 1 1) 9999 count first_rises in
    let begins : 1 ≤ year = by_order year 1 (λ none. absurd (omega (arith, origin, s.after 1 none (omega arith)))) (λ le. le) in (
      year,
      record {
        begins = begins;
        ends = s.within;
        low = s.before year begins (omega arith);
        high = by_order year 9999 (λ lt. s.after (suc year) (omega arith) (omega arith)) (λ le. let last : suc year ≡ 10000 = omega (arith, s.within) in rw last (omega (arith, end_of_years)));
        said = begun_is (λ y. day_number y 1 1) 9999 count year s.within s.before s.after;
      },
    )

month_rises : (year : ℕ) → 1 ≤ year → year ≤ 9999 → (i j : ℕ) → 1 ≤ i → i ≤ j → j ≤ 12 → day_number year i 1 ≤ day_number year j 1
month_rises year begins ends i j low mid high = month_begun year j 1 record { begins = begins; ends = ends; in_year = (omega arith, high); in_month = (omega arith, omega (arith, days_in_month_bounds (pos year) j)) } i low mid

in_month : (count year : ℕ) → InYear count year → (month : ℕ) × HasDate count year month (count - day_number year month 1 + 1) × (month_on year count ≡ month)
unfolding month_on
in_month count year h =
    let (month, s) = split (λ m. day_number year m 1) 12 count (month_rises year h.begins h.ends) in
    let begins : 1 ≤ month = by_order month 1 (λ none. absurd (omega (arith, h.low, s.after 1 none (omega arith)))) (λ le. le) in
    let low : day_number year month 1 ≤ count = s.before month begins (omega arith) in
    let within = s.within in
    let high : count < day_number year month 1 + days_in_month (pos year) month = by_order month 12
    (λ lt. omega (arith, s.after (suc month) (omega arith) (omega arith), month_ends year month h.begins begins (omega arith)))
    (λ le. let last : month ≡ 12 = omega arith in rw last (omega (arith, h.high, december_ends year h.begins))) in (
      month,
      record {
        real = record { begins = h.begins; ends = h.ends; in_year = (begins, within); in_month = (omega arith, omega arith) };
        number = split_day year month (count - day_number year month 1 + 1) count low refl;
      },
      begun_is (λ m. day_number year m 1) 12 count month s.within s.before s.after,
    )

-- the date that the definitions say of a day is real, and has the day's number
pub has_date : (count : ℕ) → count ≤ 3652058 → HasDate count (year_on count) (month_on (year_on count) count) (count - day_number (year_on count) (month_on (year_on count) count) 1 + 1)
has_date count top =
    let (year, y) = in_year count top in
    let (month, date, m) = in_month count year y in
    rw (y.said, m) date
