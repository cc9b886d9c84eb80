use Rattle.std.proofs.Common.{List, ℕ, ap, length, arith}
use Rattle.std.proofs.iter.runs.Sources.{from_front}
use Rattle.std.specs.Map.Iter.{TakesFirst, deref_pair}
use Rattle.ups_steps.specs.declared.held.HeldRow.{HeldRow}
use Rattle.ups_steps.specs.Table.{StepsView}
use Rattle.ups_steps.proofs.Placing.{distinct_held, few_held}
use Rattle.ups_steps.proofs.steps.Steps.iter.Goals as goal

pub returns-clause-runs : goal.returns-clause-runs
returns-clause-runs g c =
    from_front (TakesFirst (deref_pair {K = List ℕ} {X = HeldRow g.row.A.Denot})) (deref_pair {K = List ℕ} {X = HeldRow g.row.A.Denot}) (λ s. s) (λ s t h. ap length h.0) (λ s x t h. h)

pub returns-clause-unique : goal.returns-clause-unique
returns-clause-unique g c = rw (← c.self.view_is) (distinct_held c.self.inside.places.entries c.over.ensures.unique)

pub returns-clause-fits : goal.returns-clause-fits
returns-clause-fits g c =
    let few = few_held c.self.inside.places.entries in
    let same = ap (λ (v : StepsView g.row.A.Denot). length v.entries) c.self.view_is in
    omega (arith, few, same, c.over.ensures.fits)
