use Rattle.std.proofs.Common.{◌≡◌, ◌≤◌, arith, pos, to_z, of_z, w8, w16, sym, ◌∙◌, false, true}
use Rattle.std.proofs.lemmas.Int.{ints}
use Rattle.ups_match.specs.Moments.{year_of}
use Rattle.ups_match.proofs.Days.{are_of, no_day, is_found}
use Rattle.ups_match.proofs.moments.day_of.Goals as goal

pub returns-in_default-clause-variant : goal.returns-in_default-clause-variant
returns-in_default-clause-variant c =
    let year : to_z w16 (of_z w16 c.year_of-year.result) ≡ pos (year_of c.args.digits.now) = omega (arith, ints) in
    let month : to_z w8 c.field_at-month.result ≡ pos c.field_at-month.result = omega (arith, ints) in
    let day : to_z w8 c.field_at-day.result ≡ pos c.field_at-day.result = omega (arith, ints) in
    let date = rw (year, month, day) at c.in_default.ensures.succeeds.1 in
    let some : 1 ≤ year_of c.args.digits.now = omega (arith, ints) in
    let components = are_of c.args.digits.now c.args.upper (to_z w16 (of_z w16 c.year_of-year.result)) c.field_at-month.result c.field_at-day.result c.extreme.result c.days_in_month-last.result c.extreme-2.result year c.field_at-month.ensures.value c.extreme.ensures c.days_in_month-last.ensures.value c.field_at-day.ensures.value c.extreme-2.ensures in
    sym (no_day c.args.digits.now c.args.upper (year_of c.args.digits.now) c.field_at-month.result c.field_at-day.result components some c.year_of-year.ensures.bound (λ h. let e : false ≡ true = date h in cc))

pub returns-clause-variant : goal.returns-clause-variant
returns-clause-variant c =
    let year : to_z w16 (of_z w16 c.year_of-year.result) ≡ pos (year_of c.args.digits.now) = omega (arith, ints) in
    let some : 1 ≤ year_of c.args.digits.now = omega (arith, ints) in
    let components = are_of c.args.digits.now c.args.upper (to_z w16 (of_z w16 c.year_of-year.result)) c.field_at-month.result c.field_at-day.result c.extreme.result c.days_in_month-last.result c.extreme-2.result year c.field_at-month.ensures.value c.extreme.ensures c.days_in_month-last.ensures.value c.field_at-day.ensures.value c.extreme-2.ensures in
    let v = c.in-Ok.ensures.value in
    (is_found c.args.digits.now c.args.upper c.field_at-month.result c.field_at-day.result c.in-Ok.date.year c.in-Ok.date.month c.in-Ok.date.day components some (v.0 ∙ year) (omega (arith, ints, v.1)) (omega (arith, ints, v.2)) c.in-Ok.date.month_in c.in-Ok.date.day_in).0

pub returns-clause-value : goal.returns-clause-value
returns-clause-value c =
    let year : to_z w16 (of_z w16 c.year_of-year.result) ≡ pos (year_of c.args.digits.now) = omega (arith, ints) in
    let some : 1 ≤ year_of c.args.digits.now = omega (arith, ints) in
    let components = are_of c.args.digits.now c.args.upper (to_z w16 (of_z w16 c.year_of-year.result)) c.field_at-month.result c.field_at-day.result c.extreme.result c.days_in_month-last.result c.extreme-2.result year c.field_at-month.ensures.value c.extreme.ensures c.days_in_month-last.ensures.value c.field_at-day.ensures.value c.extreme-2.ensures in
    let v = c.in-Ok.ensures.value in
    let found = (is_found c.args.digits.now c.args.upper c.field_at-month.result c.field_at-day.result c.in-Ok.date.year c.in-Ok.date.month c.in-Ok.date.day components some (v.0 ∙ year) (omega (arith, ints, v.1)) (omega (arith, ints, v.2)) c.in-Ok.date.month_in c.in-Ok.date.day_in).1 in
    omega (arith, ints, found, c.to_unix_epoch_day.ensures.value)
