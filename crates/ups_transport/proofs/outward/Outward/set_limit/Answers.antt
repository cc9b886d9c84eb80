use mathlib.Core.Logic.{∥∥₁_map}
use Rattle.ups_transport.proofs.Leaving.{left_same}
use Rattle.ups_transport.proofs.outward.Outward.set_limit.Goals as goal

pub invariant_of-self : goal.invariant_of-self
invariant_of-self g c = record { left = ∥∥₁_map c.args.self.now.left (λ left. left_same g.K.Keeping.had _ _ _ c.set_limit.ensures.same left) }
