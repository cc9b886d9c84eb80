use mathlib.Core.Logic.{∥∥₁_map}
use Rattle.ups_transport.proofs.Leaving.{left_once}
use Rattle.ups_transport.proofs.outward.Outward.write_backed.Goals as goal

pub invariant_of-self : goal.invariant_of-self
invariant_of-self g c = record { left = ∥∥₁_map c.args.self.now.left (λ left. left_once g.K.Keeping.had _ _ _ _ _ _ c.write_backed.result c.requires.backed c.args.committed.now.backed c.write_backed.ensures.leaves left) }
