use Rattle.std.proofs.Common.{ℕ, List, sym, subst}
use Rattle.std.specs.Prelude.{Contains}
use Rattle.ups_index.proofs.slots.look_up.Goals as goal

pub steps_at-requires-clause-has : goal.steps_at-requires-clause-has
steps_at-requires-clause-has g c place step values r f =
    let (n, low, high, h) = c.requires place step values r f in
    subst (λ (l : List ℕ). Contains l place) (sym c.deref.ensures.value) (c.in_ok-places.ensures.has n place h low high)
