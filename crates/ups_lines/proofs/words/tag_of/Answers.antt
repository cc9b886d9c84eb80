use Rattle.std.proofs.Common.{arith}
use Rattle.ups_lines.proofs.Tagging.{group_at, element_at, eight_digits}
use Rattle.ups_lines.proofs.words.tag_of.Goals as goal

pub returns-in_err-hex_number : goal.returns-in_err-hex_number
returns-in_err-hex_number c = rw c.from_residual.ensures (λ tag is. c.in_err-hex_number.ensures _ (group_at c.args.digits.now tag is))

pub returns-in_err-hex_number-2 : goal.returns-in_err-hex_number-2
returns-in_err-hex_number-2 c = rw c.from_residual-in_err-hex_number-2.ensures (λ tag is. c.in_err-hex_number-2.ensures _ (element_at c.args.digits.now tag is))

pub returns : goal.returns
returns c = eight_digits c.args.digits.now (omega arith) _ _ c.in_ok-hex_number.ensures c.in_ok-hex_number-2.ensures
