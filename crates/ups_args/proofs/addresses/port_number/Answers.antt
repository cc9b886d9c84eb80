use Rattle.std.proofs.Common.{◌∙◌}
use Rattle.ups_args.proofs.Parts.{digits_pass}
use Rattle.ups_args.proofs.addresses.port_number.Goals as goal

pub returns-then-not-are_digits : goal.returns-then-not-are_digits
returns-then-not-are_digits c = λ p. let e = c.are_digits.ensures ∙ digits_pass c.args.text.now p.numeral.1 in absurd cc
