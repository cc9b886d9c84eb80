-- Worked rows: what the definitions say of some texts and moments, computed by the check.
use Rattle.std.proofs.Common.{◌≡◌, refl, true, false}
use Rattle.std.specs.Prelude.{Some, None, codes, pos, neg_ℤ}
use Rattle.ups_match.specs.Moments.{moment, stamp, last_moment, day_number, days_of_month, field, is_date, is_time, date_number, second_of_day, microsecond_of, offset_of, signed_offset, begun, date_stamp, time_stamp, offset_stamp, year_on, month_on}

first_of_a_year : moment (codes "2024") (pos 0) false ≡ Some (pos 1704067200000000)
unfolding moment day_number days_of_month field is_date is_time date_number second_of_day microsecond_of offset_of signed_offset
first_of_a_year = refl

last_of_a_leap_february : moment (codes "202402") (pos 60) true ≡ Some (pos 1709247599999999)
unfolding moment day_number days_of_month field is_date is_time date_number second_of_day microsecond_of offset_of signed_offset
last_of_a_leap_february = refl

last_of_another_february : moment (codes "190002") (pos 0) true ≡ Some (neg_ℤ (pos 2203891200000001))
unfolding moment day_number days_of_month field is_date is_time date_number second_of_day microsecond_of offset_of signed_offset
last_of_another_february = refl

leap_day : moment (codes "20000229") (pos 0) false ≡ Some (pos 951782400000000)
unfolding moment day_number days_of_month field is_date is_time date_number second_of_day microsecond_of offset_of signed_offset
leap_day = refl

first_of_the_year_1 : moment (codes "0001") (pos 840) false ≡ Some (neg_ℤ (pos 62135647200000000))
unfolding moment day_number days_of_month field is_date is_time date_number second_of_day microsecond_of offset_of signed_offset
first_of_the_year_1 = refl

last_of_the_year_9999 : moment (codes "9999") (neg_ℤ (pos 720)) true ≡ Some (pos 253402343999999999)
unfolding moment day_number days_of_month field is_date is_time date_number second_of_day microsecond_of offset_of signed_offset
last_of_the_year_9999 = refl

leap_second : moment (codes "20161231235960.5") (pos 0) false ≡ Some (pos 1483228799500000)
unfolding moment day_number days_of_month field is_date is_time date_number second_of_day microsecond_of offset_of signed_offset
leap_second = refl

fraction_filled_up : moment (codes "20240517080910.25-0330") (pos 0) true ≡ Some (pos 1715945950259999)
unfolding moment day_number days_of_month field is_date is_time date_number second_of_day microsecond_of offset_of signed_offset
fraction_filled_up = refl

plus_behind_a_year : moment (codes "2024+1400") (neg_ℤ (pos 300)) false ≡ Some (pos 1704016800000000)
unfolding moment day_number days_of_month field is_date is_time date_number second_of_day microsecond_of offset_of signed_offset
plus_behind_a_year = refl

no_offset_less_than_nothing : moment (codes "20240517080910-0000") (pos 330) false ≡ Some (pos 1715933350000000)
unfolding moment day_number days_of_month field is_date is_time date_number second_of_day microsecond_of offset_of signed_offset
no_offset_less_than_nothing = refl

no_day : moment (codes "20230229") (pos 0) false ≡ None
unfolding moment day_number days_of_month field is_date is_time date_number second_of_day microsecond_of offset_of signed_offset
no_day = refl

no_minus_behind_a_day : moment (codes "20240101-0100") (pos 0) false ≡ None
unfolding moment day_number days_of_month field is_date is_time date_number second_of_day microsecond_of offset_of signed_offset
no_minus_behind_a_day = refl

no_such_offset : moment (codes "20240101000000+1401") (pos 0) true ≡ None
unfolding moment day_number days_of_month field is_date is_time date_number second_of_day microsecond_of offset_of signed_offset
no_such_offset = refl

no_year_0 : moment (codes "0000") (pos 0) false ≡ None
unfolding moment day_number days_of_month field is_date is_time date_number second_of_day microsecond_of offset_of signed_offset
no_year_0 = refl

no_seventh_digit : moment (codes "20240101000000.1234567") (pos 0) true ≡ None
unfolding moment day_number days_of_month field is_date is_time date_number second_of_day microsecond_of offset_of signed_offset
no_seventh_digit = refl

no_padding : moment (codes "2024 ") (pos 0) false ≡ None
unfolding moment day_number days_of_month field is_date is_time date_number second_of_day microsecond_of offset_of signed_offset
no_padding = refl

first_stamp : stamp 0 (neg_ℤ (pos 720)) ≡ codes "19691231120000-1200"
unfolding stamp day_number begun date_stamp time_stamp offset_stamp year_on month_on
first_stamp = refl

last_stamp : stamp last_moment (pos 840) ≡ codes "99991231235959+1400"
unfolding stamp day_number begun date_stamp time_stamp offset_stamp year_on month_on
last_stamp = refl

stamp_in_utc : stamp 1709164800 (pos 0) ≡ codes "20240229000000+0000"
unfolding stamp day_number begun date_stamp time_stamp offset_stamp year_on month_on
stamp_in_utc = refl

stamp_on_a_leap_day : stamp 1709251199 (pos 60) ≡ codes "20240301005959+0100"
unfolding stamp day_number begun date_stamp time_stamp offset_stamp year_on month_on
stamp_on_a_leap_day = refl

stamp_by_half_hours : stamp 1479168000 (neg_ℤ (pos 570)) ≡ codes "20161114143000-0930"
unfolding stamp day_number begun date_stamp time_stamp offset_stamp year_on month_on
stamp_by_half_hours = refl
