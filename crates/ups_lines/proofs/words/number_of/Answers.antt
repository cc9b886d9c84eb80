use Rattle.std.proofs.Common.{◌+◌, ◌*◌, refl, arith, rules}
use Rattle.ups_lines.proofs.Parting.{digits_next, digit_at, up_to}
use Rattle.ups_lines.proofs.words.number_of.Goals as goal

pub loop-digit-preserved : goal.loop-digit-preserved
loop-digit-preserved c =
    digits_next c.args.word.now c.loop-digit.digit-index c.in_ok-value.value c.loop-digit.number c.in_ok-number.number c.loop-digit-test.true c.loop-digit.invariant
    c.in_ok-value.ensures (search rules)

pub returns-in_err-value : goal.returns-in_err-value
returns-in_err-value c = rw c.from_residual.ensures (λ numeral low. c.in_err-value.ensures (digit_at c.loop-digit.digit-index c.args.word.now c.loop-digit-test.true numeral.1))

pub returns-in_err-checked_mul : goal.returns-in_err-checked_mul
returns-in_err-checked_mul c = rw c.from_residual-in_err-checked_mul.ensures (λ numeral low.
    let next = digits_next c.args.word.now c.loop-digit.digit-index c.in_ok-value.value c.loop-digit.number (c.loop-digit.number * 10 + c.in_ok-value.value) c.loop-digit-test.true c.loop-digit.invariant (search rules) refl in
    let most = up_to 0 (c.loop-digit.digit-index + 1) c.args.word.now in
    omega (arith, next.1, most, low))

pub returns-in_err-number : goal.returns-in_err-number
returns-in_err-number c = rw c.from_residual-in_err-number.ensures (λ numeral low.
    let next = digits_next c.args.word.now c.loop-digit.digit-index c.in_ok-value.value c.loop-digit.number (c.loop-digit.number * 10 + c.in_ok-value.value) c.loop-digit-test.true c.loop-digit.invariant (search rules) refl in
    let most = up_to 0 (c.loop-digit.digit-index + 1) c.args.word.now in
    omega (arith, next.1, most, low))
