use Rattle.std.proofs.Common.{ap}
use Rattle.ups_pipe.proofs.Digits.{half_read}
use Rattle.ups_pipe.proofs.hexing.HexReader.byte.Goals as goal

pub returns-in_default-2 : goal.returns-in_default-2
returns-in_default-2 g c =
    let none = rw c.in_default-2.is at c.in_ok-low.ensures.digit in
    half_read _ (g.R.Read.remaining c.high.new.self.inner) (g.R.Read.remaining c.digit.new.self.inner) (g.R.Read.remaining c.fail.new.self.inner)
    _ c.high.new.self.fault c.digit.new.self.fault c.fail.new.self.fault _ c.high.new.self.high c.digit.new.self.high c.fail.new.self.high
    c.high.ensures.kept none.0 c.in_ok-low.ensures.sound c.digit.ensures.high (ap g.R.Read.remaining c.fail.ensures.rest.0) c.fail.ensures.rest.1 c.fail.ensures.noted
