use Rattle.std.proofs.Common.{length, sym, ap, ◌∙◌, arith}
use Rattle.std.specs.Prelude.{is_some}
use Rattle.ups_steps.specs.Held.{held_at}
use Rattle.ups_steps.specs.Places.{held_in}
use Rattle.ups_steps.specs.Table.{StepsView}
use Rattle.ups_steps.proofs.Putting.{as_many_put}
use Rattle.ups_steps.proofs.steps.Steps.put.Goals as goal

pub invariant_of-self : goal.invariant_of-self
invariant_of-self g c =
    let here = ap (λ (v : StepsView g.row.A.Denot). is_some (held_at c.args.step v.entries)) c.self.view_is ∙ c.requires in
    record {
      exact = c.self.invariant.exact ∙ sym (ap length c.replace.ensures.steps ∙ as_many_put c.args.step c.args.held (held_in c.self.inside.places.entries) here);
      dense = omega (arith, c.replace.ensures.len, c.self.invariant.dense);
      covered = c.replace.ensures.covers c.self.invariant.covered;
    }
