use Rattle.std.proofs.Common.{arith, sym, ap, ◌∙◌, FitsSigned, w16, rules}
use Rattle.std.specs.Prelude.{Some}
use Rattle.std.proofs.lemmas.Int.{to_z-of_z, ints}
use Rattle.ups_match.proofs.Combining.{none_second, none_fraction, none_offset, some_moment}
use Rattle.ups_match.proofs.moments.read_dt.Goals as goal

pub returns-in_err-second : goal.returns-in_err-second
returns-in_err-second c =
    let s = c.split_digits.ensures in
    c.from_residual.ensures ∙ sym (none_second c.args.text.now c.args.offset c.args.upper _ _ s.front s.behind c.in_err-second.ensures.variant)

pub returns-in_err-microsecond : goal.returns-in_err-microsecond
returns-in_err-microsecond c =
    let s = c.split_digits.ensures in
    c.from_residual-in_err-microsecond.ensures ∙ sym (none_fraction c.args.text.now c.args.offset c.args.upper _ _ s.front s.behind c.in_ok-second.ensures.variant c.in_err-microsecond.ensures.variant)

pub returns-in_err-minutes : goal.returns-in_err-minutes
returns-in_err-minutes c =
    let s = c.split_digits.ensures in
    let f = c.in_ok-microsecond.ensures in
    let o = rw (to_z-of_z w16 c.args.offset c.ranges.offset) at c.in_err-minutes.ensures in
    c.from_residual-in_err-minutes.ensures ∙ sym (none_offset c.args.text.now c.args.offset c.args.upper _ _ c.in_ok-microsecond.suffix.now s.front s.behind c.in_ok-second.ensures.variant f.variant f.behind o)

pub overflow_add-result : goal.overflow_add-result
overflow_add-result c =
    let b = c.in_ok-second.ensures.bound in
    let m = c.in_ok-microsecond.ensures.bound in
    let minutes : FitsSigned w16 c.in_ok-minutes.minutes = search rules in
    omega (arith, ints)

pub returns : goal.returns
returns c =
    let s = c.split_digits.ensures in
    let b = c.in_ok-second.ensures.bound in
    let f = c.in_ok-microsecond.ensures in
    let o = rw (to_z-of_z w16 c.args.offset c.ranges.offset) at c.in_ok-minutes.ensures in
    let minutes : FitsSigned w16 c.in_ok-minutes.minutes = search rules in
    let value = some_moment c.args.text.now c.args.offset c.args.upper _ _ c.in_ok-microsecond.suffix.now c.in_ok-second.second c.in_ok-minutes.minutes c.in_ok-microsecond.microsecond s.front s.behind c.in_ok-second.ensures.variant f.variant f.behind o c.in_ok-second.ensures.value f.value in
    ap Some (omega (arith, ints, f.bound)) ∙ sym value
