use mathlib.Core.Logic.{∥∥₁_map}
use Rattle.ups_transport.proofs.Leaving.{left_abort}
use Rattle.ups_transport.proofs.outward.Outward.write_abort.Goals as goal

pub invariant_of-self : goal.invariant_of-self
invariant_of-self g c = record { left = ∥∥₁_map c.args.self.now.left (λ left. left_abort g.K.Keeping.had _ _ _ c.write_abort.ensures.leaves.0 c.write_abort.ensures.leaves.1 c.write_abort.ensures.leaves.2 left) }
