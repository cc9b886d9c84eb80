use Rattle.std.proofs.Common.{FitsSigned, w16, rules, ap, ◌∙◌, unsigned_abs}
use Rattle.std.proofs.lemmas.Int.{to_z-of_z}
use Rattle.ups_match.proofs.Begun.{date_on_is, says_date}
use Rattle.ups_match.proofs.stamps.date_on.Goals as goal

pub overflow_cast-result : goal.overflow_cast-result
overflow_cast-result c =
    let d = c.from_days_since_min-date.result in
    let is = date_on_is d.year d.month d.day c.args.day (d.year_in, d.month_in, d.day_in) c.from_days_since_min-date.ensures in
    let e = is.year_is in
    let low = is.real.begins in
    let high = is.real.ends in
    let fits : FitsSigned w16 d.year = search rules in
    (search rules, search rules)

pub returns-clause-year : goal.returns-clause-year
returns-clause-year c =
    let d = c.from_days_since_min-date.result in
    let is = date_on_is d.year d.month d.day c.args.day (d.year_in, d.month_in, d.day_in) c.from_days_since_min-date.ensures in
    let fits : FitsSigned w16 d.year = search rules in
    ap unsigned_abs (to_z-of_z w16 d.year fits) ∙ (says_date d.year d.month d.day c.args.day is).year_said

pub returns-clause-month : goal.returns-clause-month
returns-clause-month c =
    let d = c.from_days_since_min-date.result in
    let is = date_on_is d.year d.month d.day c.args.day (d.year_in, d.month_in, d.day_in) c.from_days_since_min-date.ensures in
    (says_date d.year d.month d.day c.args.day is).month_said

pub returns-clause-day : goal.returns-clause-day
returns-clause-day c =
    let d = c.from_days_since_min-date.result in
    let is = date_on_is d.year d.month d.day c.args.day (d.year_in, d.month_in, d.day_in) c.from_days_since_min-date.ensures in
    (says_date d.year d.month d.day c.args.day is).day_said
