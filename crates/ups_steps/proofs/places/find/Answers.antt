use Rattle.std.proofs.Common.{ap, ◌∙◌}
use Rattle.ups_steps.proofs.Placing.{held_by, found}
use Rattle.ups_steps.proofs.places.find.Goals as goal

pub returns-in-Some : goal.returns-in-Some
returns-in-Some g c = c.as_ref.ensures.value ∙ ap held_by c.in-Some.ensures.value ∙ found c.args.step.now c.args.places.now.entries c.len.ensures.unique

pub returns-in-None : goal.returns-in-None
returns-in-None g c = ap held_by c.in-None.ensures.value ∙ found c.args.step.now c.args.places.now.entries c.len.ensures.unique
