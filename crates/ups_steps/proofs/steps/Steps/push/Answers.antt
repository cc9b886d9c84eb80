use Rattle.std.proofs.Common.{[], ◌∷◌, ◌++◌, length, ap, ◌∙◌, arith, length-append}
use Rattle.ups_steps.specs.Places.{held_in}
use Rattle.ups_steps.specs.Table.{StepsView}
use Rattle.ups_steps.proofs.Placing.{few_held}
use Rattle.ups_steps.proofs.steps.Steps.push.Goals as goal

pub overflow_add-count : goal.overflow_add-count
overflow_add-count g c =
    let few = few_held c.add.new.places.entries in
    let more = ap length c.add.ensures.steps in
    let one = length-append (held_in c.self.inside.places.entries) ((c.args.step, c.args.held) ∷ []) in
    omega (arith, few, more, one, c.self.invariant.exact, c.add.ensures.small)

pub invariant_of-self : goal.invariant_of-self
invariant_of-self g c =
    let more = ap length c.add.ensures.steps in
    let one = length-append (held_in c.self.inside.places.entries) ((c.args.step, c.args.held) ∷ []) in
    record {
      exact = omega (arith, more, one, c.self.invariant.exact);
      dense = omega (arith, c.add.ensures.len, c.self.invariant.dense);
      covered = c.add.ensures.covers c.self.invariant.covered;
    }

pub returns-clause-entries : goal.returns-clause-entries
returns-clause-entries g c = c.add.ensures.steps ∙ ap (λ (v : StepsView g.row.A.Denot). v.entries ++ (c.args.step, c.args.held) ∷ []) c.self.view_is
