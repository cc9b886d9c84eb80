use Rattle.std.specs.Char.{is_ascii_digit}
use Rattle.ups_match.proofs.Fields.{passes-front}
use Rattle.ups_match.proofs.digits.split_digits.Goals as goal

pub returns-clause-digits : goal.returns-clause-digits
returns-clause-digits c = rw (c.split_at.ensures.front, c.leading_count.ensures.value) (passes-front is_ascii_digit c.args.text.now)
