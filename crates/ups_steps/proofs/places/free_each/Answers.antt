use Rattle.std.proofs.Common.{filter, not, refl, ap, ◌∙◌, arith}
use Rattle.std.proofs.lemmas.List.{take_all}
use Rattle.ups_life.specs.Watching.{is_among}
use Rattle.ups_keep.specs.declared.due.Final.{Final}
use Rattle.ups_keep.specs.Waits.{steps_of}
use Rattle.ups_steps.specs.Places.{held_in}
use Rattle.ups_steps.proofs.Taking.{taken_none, taken_next}
use Rattle.ups_steps.proofs.places.free_each.Goals as goal
use Rattle.ups_steps.proofs.places.free_each.Goals.{then-free_part, else-free_part}

pub loop-step-init : goal.loop-step-init
loop-step-init g c = record {
  steps = taken_none (held_in c.args.places.now.entries);
  count = c.requires;
  len = refl;
  spare = refl;
  covers = λ right. right;
}

pub loop-step-preserved : goal.loop-step-preserved
loop-step-preserved g c = record {
  steps = taken_next c.args.steps.now c.loop-step.step-index c.step-item.result (held_in c.args.places.now.entries) (held_in c.loop-step.places.entries) (held_in c.free_part.new.places.entries) c.loop-step-test.true
      (ap (λ (x : Final). x.step) c.step-item.is) c.loop-step.invariant.steps c.free_part.ensures.steps;
  count = elim c.if-free_part.branch [
    | then-free_part w ↦ (let n = rw w.if-free_part.true at c.free_part.ensures.count in omega (arith, n, w.left-is, c.loop-step.invariant.count))
    | else-free_part w ↦ (let n = rw w.if-free_part.false at c.free_part.ensures.count in omega (arith, n, w.left-is, c.loop-step.invariant.count))
  ];
  len = c.free_part.ensures.len ∙ c.loop-step.invariant.len;
  spare = c.free_part.ensures.spare ∙ c.loop-step.invariant.spare;
  covers = λ right. c.free_part.ensures.covers (c.loop-step.invariant.covers right);
}

pub returns-clause-steps : goal.returns-clause-steps
returns-clause-steps g c =
    c.loop-step.invariant.steps ∙ ap (λ xs. filter (λ e. not (is_among e.0 (steps_of xs))) (held_in c.args.places.now.entries)) (take_all c.loop-step.step-index c.args.steps.now (omega (arith, c.loop-step-test.false)))
