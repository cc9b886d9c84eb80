use Rattle.std.proofs.Common.{sym, ◌∙◌}
use Rattle.ups_lines.proofs.Decoding.{bare}
use Rattle.ups_lines.proofs.text.Text.bytes.Goals as goal

pub returns-then-not-has_escapes : goal.returns-then-not-has_escapes
returns-then-not-has_escapes g c = λ bytes is. bare bytes c.args.self.written.now (sym c.has_escapes.ensures ∙ c.if-not-has_escapes.true) is
