use Rattle.std.proofs.Common.{subst}
use Rattle.ups_transport.specs.Leaving.{HasLeft}
use Rattle.ups_transport.proofs.Leaving.{left_nothing}
use Rattle.ups_transport.proofs.outward.Outward.new.Goals as goal

pub invariant_of-result : goal.invariant_of-result
invariant_of-result g c = record { left = ∣ subst (λ old. HasLeft g.K.Keeping.had old (g.S.Sink.left c.args.sink)) c.requires.left (left_nothing g.K.Keeping.had (g.S.Sink.left c.args.sink)) ∣₁ }
