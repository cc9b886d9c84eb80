use Rattle.std.proofs.Common.{◌≡◌, ◌<◌, length, get_or, arith, rules}
use Rattle.ups_lines.proofs.Decoding.{no_escape, too_short}
use Rattle.ups_lines.proofs.text.front_of.Goals as goal

pub returns-in_err-byte_of-in-37 : goal.returns-in_err-byte_of-in-37
returns-in_err-byte_of-in-37 c =
    let percent : get_or c.args.text.now 0 0 ≡ 37 = search rules in
    rw c.from_residual.ensures (no_escape c.args.text.now percent c.in_err-byte_of-in-37.ensures)

pub returns-in-37-2 : goal.returns-in-37-2
returns-in-37-2 c =
    let short : length c.args.text.now < 3 = grind arith in
    too_short c.args.text.now short (λ some. grind arith)
