use Rattle.std.proofs.Common.{arith}
use Rattle.ups_lines.proofs.words.hex_number.Goals as goal

pub returns-in_err-byte_of : goal.returns-in_err-byte_of
returns-in_err-byte_of c = rw c.from_residual.ensures (λ number spells. c.in_err-byte_of.ensures _ spells.first)

pub returns-in_err-byte_of-2 : goal.returns-in_err-byte_of-2
returns-in_err-byte_of-2 c = rw c.from_residual-in_err-byte_of-2.ensures (λ number spells. c.in_err-byte_of-2.ensures _ spells.second)

pub returns : goal.returns
returns c = record { high = c.in_ok-byte_of.field-0; low = c.in_ok-byte_of-2.field-0; first = c.in_ok-byte_of.ensures; second = c.in_ok-byte_of-2.ensures; value = omega (arith, c.from_be_bytes.ensures) }
