use Rattle.std.proofs.Common.{rules}
use Rattle.ups_lines.proofs.Decoding.{goes_on, went_on, stuck}
use Rattle.ups_lines.proofs.text.Text.of.Goals as goal

pub returns-in_err-front : goal.returns-in_err-front
returns-in_err-front c = rw c.from_residual.ensures (λ is. stuck c.loop-rest.rest.now c.in_err-front.ensures (search rules) (c.loop-rest.invariant.1 is))

pub loop-rest-preserved : goal.loop-rest-preserved
loop-rest-preserved c = let front = c.in_ok-front.ensures in (λ is. c.loop-rest.invariant.0 (goes_on _ _ _ front is), λ is. went_on _ _ _ front (c.loop-rest.invariant.1 is))
