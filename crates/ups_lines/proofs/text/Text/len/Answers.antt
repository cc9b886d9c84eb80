use Rattle.std.proofs.Common.{arith}
use Rattle.ups_lines.proofs.Decoding.{sized}
use Rattle.ups_lines.proofs.text.Text.len.Goals as goal

pub returns : goal.returns
returns c = λ bytes is. let e = sized bytes c.args.self.written.now is in omega (arith, e)
