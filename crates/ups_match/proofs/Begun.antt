-- The year and the month of a day, by how many have begun.
use Rattle.std.proofs.Common.{◌≡◌, ℕ, zero, suc, ◌+◌, ◌-◌, ◌<◌, ◌≤◌, Bool, true, false, cond, inl, inr, refl, sym, ap, ◌∙◌, arith, ℤ, pos, negsuc, ◌+ℤ◌, ◌≤ℤ◌, unsigned_abs}
use Rattle.std.proofs.lemmas.Int.{by_lt_z}
use Rattle.std.specs.Prelude.{nat_le}
use Rattle.std.specs.List.{fold, range_with_len}
use Rattle.std.specs.Int.{IsInRange}
use Rattle.std.proofs.lemmas.Bool.{cases_order}
use Rattle.std.proofs.lemmas.Bool.Decides.{nat_tests}
use Rattle.jiff_core.specs.Calendar.{IsYear, IsCivilDate, days_in_month, days_from_civil, day_count}
use Rattle.jiff_core.proofs.SignedLemmas.{signed_arith}
use Rattle.jiff_core.proofs.CalendarLemmas.{days_from_civil-day_count, day_count-lt_year, day_count-lt_month, day_count-day_of_year, day_count-day, days_in_month_bounds}
use Rattle.ups_match.specs.Moments.{begun, day_number, year_on, month_on}
use Rattle.ups_match.proofs.Calendar.{day_count-day_number}

-- a count over numbers of which the first k pass and no other
count_from : (p : ℕ → Bool) (s a n k : ℕ) → k ≤ n → ((i : ℕ) → a ≤ i → i < a + k → p i ≡ true) → ((i : ℕ) → a + k ≤ i → i < a + n → p i ≡ false) → fold (λ c x. c + cond (p x) 1 0) s (range_with_len a n) ≡ s + k
count_from p s a zero k h passes fails = omega arith
count_from p s a (suc n) zero h passes fails =
    let here : p a ≡ false = fails a (omega arith) (omega arith) in
    ap (λ b. fold (λ c x. c + cond (p x) 1 0) (s + cond b 1 0) (range_with_len (a + 1) n)) here ∙ (count_from p (s + 0) (a + 1) n zero (omega arith) (λ i low high. absurd (omega arith)) (λ i low high. fails i (omega arith) (omega arith)) ∙ omega arith)
count_from p s a (suc n) (suc k) h passes fails =
    let here : p a ≡ true = passes a (omega arith) (omega arith) in
    ap (λ b. fold (λ c x. c + cond (p x) 1 0) (s + cond b 1 0) (range_with_len (a + 1) n)) here ∙ (count_from p (s + 1) (a + 1) n k (omega arith) (λ i low high. passes i (omega arith) (omega arith)) (λ i low high. fails i (omega arith) (omega arith)) ∙ omega arith)

-- a choice by the order of two numbers
pub by_order : {P : Type 0} (a b : ℕ) → (a < b → P) → (b ≤ a → P) → P
by_order a b f g = elim (cases_order a b) [ inl e ↦ g (omega arith) | inr r ↦ elim r [ inl lt ↦ f lt | inr gt ↦ g (omega arith) ] ]

pub begun_is : (first_day : ℕ → ℕ) (n day k : ℕ) → k ≤ n → ((i : ℕ) → 1 ≤ i → i ≤ k → first_day i ≤ day) → ((i : ℕ) → k < i → i ≤ n → day < first_day i) → begun first_day n day ≡ k
unfolding begun
begun_is first_day n day k h before after =
    count_from (λ i. nat_le (first_day i) day) 0 1 n k h
    (λ i low high. let le : first_day i ≤ day = before i low (omega arith) in grind (arith, nat_tests))
    (λ i low high. let gt : day < first_day i = after i (omega arith) (omega arith) in grind (arith, nat_tests))
    ∙ omega arith

-- a date from the year 1 on, of the calendar
pub record IsReal (year month day : ℕ) : Type 0 where
  pub begins : 1 ≤ year
  pub ends : year ≤ 9999
  pub in_year : IsInRange 1 12 month
  pub in_month : IsInRange 1 (days_in_month (pos year) month) day

civil : (year month day : ℕ) → IsReal year month day → IsCivilDate (pos year) month day
civil year month day r =
    let y : IsYear (pos year) = omega (arith, signed_arith, r.begins, r.ends) in
    (y, r.in_year, r.in_month)

pub first_of : (year month : ℕ) → 1 ≤ year → year ≤ 9999 → 1 ≤ month → month ≤ 12 → IsCivilDate (pos year) month 1
first_of year month low high first last = civil year month 1 record { begins = low; ends = high; in_year = (first, last); in_month = (omega arith, omega (arith, days_in_month_bounds (pos year) month)) }

january : (year : ℕ) → 1 ≤ year → year ≤ 9999 → IsCivilDate (pos year) 1 1
january year low high = first_of year 1 low high (omega arith) (omega arith)

-- the first day of each year up to that of a date is fails after the date
pub year_begun : (year month day : ℕ) → IsReal year month day → (i : ℕ) → 1 ≤ i → i ≤ year → day_number i 1 1 ≤ day_number year month day
year_begun year month day r i low high =
    let here = day_count-day_number year month day r.begins r.in_year.0 r.in_year.1 r.in_month.0 in
    let there = day_count-day_number i 1 1 low (omega arith) (omega arith) (omega arith) in
    let ends = r.ends in
    by_order i year
    (λ lt. omega (arith, day_count-lt_year (pos i) 1 1 (pos year) month day (january i low (omega arith)) r.in_month.0 (omega (arith, signed_arith))))
    (λ le. let same : i ≡ year = omega arith in
    omega (arith, day_count-day_of_year (pos year) month day r.in_month.0, ap (λ y. day_count (pos y) 1 1) same))

-- that of a later year is
year_ahead : (year month day : ℕ) → IsReal year month day → (i : ℕ) → year < i → i ≤ 9999 → day_number year month day < day_number i 1 1
year_ahead year month day r i lt top =
    let here = day_count-day_number year month day r.begins r.in_year.0 r.in_year.1 r.in_month.0 in
    let begins = r.begins in
    let there = day_count-day_number i 1 1 (omega arith) (omega arith) (omega arith) (omega arith) in
    omega (arith, day_count-lt_year (pos year) month day (pos i) 1 1 (civil year month day r) (omega arith) (omega (arith, signed_arith)))

pub year_on-day_number : (year month day : ℕ) → IsReal year month day → year_on (day_number year month day) ≡ year
unfolding year_on
year_on-day_number year month day r =
    begun_is (λ y. day_number y 1 1) 9999 (day_number year month day) year r.ends (year_begun year month day r) (year_ahead year month day r)

pub month_begun : (year month day : ℕ) → IsReal year month day → (i : ℕ) → 1 ≤ i → i ≤ month → day_number year i 1 ≤ day_number year month day
month_begun year month day r i low high =
    let here = day_count-day_number year month day r.begins r.in_year.0 r.in_year.1 r.in_month.0 in
    let last = r.in_year.1 in
    let there = day_count-day_number year i 1 r.begins low (omega arith) (omega arith) in
    by_order i month
    (λ lt. omega (arith, day_count-lt_month (pos year) i 1 month day (first_of year i r.begins r.ends low (omega arith)) r.in_month.0 lt))
    (λ le. let same : i ≡ month = omega arith in
    omega (arith, r.in_month.0, day_count-day (pos year) month day 1 r.in_month.0 (omega arith), ap (λ m. day_count (pos year) m 1) same))

month_ahead : (year month day : ℕ) → IsReal year month day → (i : ℕ) → month < i → i ≤ 12 → day_number year month day < day_number year i 1
month_ahead year month day r i lt top =
    let here = day_count-day_number year month day r.begins r.in_year.0 r.in_year.1 r.in_month.0 in
    let there = day_count-day_number year i 1 r.begins (omega arith) top (omega arith) in
    omega (arith, day_count-lt_month (pos year) month day i 1 (civil year month day r) (omega arith) lt)

pub month_on-day_number : (year month day : ℕ) → IsReal year month day → month_on year (day_number year month day) ≡ month
unfolding month_on
month_on-day_number year month day r =
    begun_is (λ m. day_number year m 1) 12 (day_number year month day) month r.in_year.1 (month_begun year month day r) (month_ahead year month day r)

pub day_on-day_number : (year month day : ℕ) → IsReal year month day → day_number year month day - day_number year month 1 + 1 ≡ day
unfolding day_number
day_on-day_number year month day r = omega (arith, r.in_month.0)

first_day : day_number 1 1 1 ≡ 0
unfolding day_number
first_day = refl

-- the date that `jiff_core` gives to a day from the year 1 on is of the year 1 or a later one
pub common_era : (year : ℤ) (month day count : ℕ) → IsCivilDate year month day → days_from_civil year month day +ℤ pos 4371587 ≡ pos (count + 3652425) → pos 1 ≤ℤ year
common_era year month day count h e = by_lt_z year (pos 1)
    (λ lt. absurd (omega (arith, signed_arith, first_day, days_from_civil-day_count year month day, day_count-lt_year year month day (pos 1) 1 1 h (omega arith) lt, day_count-day_number 1 1 1 (omega arith) (omega arith) (omega arith) (omega arith))))
    (λ le. le)

pos_abs : (z : ℤ) → pos 1 ≤ℤ z → z ≡ pos (unsigned_abs z)
pos_abs (pos n) h = refl
pos_abs (negsuc n) h = absurd (omega (arith, signed_arith))

-- and it is real, with the number of the day
pub record IsDateOn (count : ℕ) (year : ℤ) (month day : ℕ) : Type 0 where
  pub year_is : year ≡ pos (unsigned_abs year)
  pub real : IsReal (unsigned_abs year) month day
  pub number : day_number (unsigned_abs year) month day ≡ count

pub date_on_is : (year : ℤ) (month day count : ℕ) → IsCivilDate year month day → days_from_civil year month day +ℤ pos 4371587 ≡ pos (count + 3652425) → IsDateOn count year month day
date_on_is year month day count h e =
    let era = common_era year month day count h e in
    let same = pos_abs year era in
    let begins : 1 ≤ unsigned_abs year = omega (arith, signed_arith) in
    let in_range = h.0 in
    let ends : unsigned_abs year ≤ 9999 = omega (arith, signed_arith) in
    let real : IsReal (unsigned_abs year) month day = record { begins = begins; ends = ends; in_year = h.1; in_month = rw same at h.2 } in
    record {
      year_is = same;
      real = real;
      number = omega (arith, signed_arith, days_from_civil-day_count year month day, ap (λ y. day_count y month day) same, day_count-day_number (unsigned_abs year) month day begins h.1.0 h.1.1 h.2.0);
    }

-- so it is what the definitions say of the day
pub record SaysDate (count : ℕ) (year : ℤ) (month day : ℕ) : Type 0 where
  pub year_said : unsigned_abs year ≡ year_on count
  pub month_said : month ≡ month_on (year_on count) count
  pub day_said : day ≡ count - day_number (year_on count) (month_on (year_on count) count) 1 + 1

pub says_date : (year : ℤ) (month day count : ℕ) → IsDateOn count year month day → SaysDate count year month day
says_date year month day count h =
    let number = h.number in
    let on_year = year_on-day_number (unsigned_abs year) month day h.real in
    let on_month = month_on-day_number (unsigned_abs year) month day h.real in
    record {
      year_said = rw (← number) (sym on_year);
      month_said = rw (← number, on_year) (sym on_month);
      day_said = rw (← number, on_year, on_month) (sym (day_on-day_number (unsigned_abs year) month day h.real));
    }
