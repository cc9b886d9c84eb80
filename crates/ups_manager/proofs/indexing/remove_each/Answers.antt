use Rattle.std.proofs.Common.{refl, ap, ◌∙◌}
use Rattle.ups_index.specs.Indexed.{without_uid}
use Rattle.ups_keep.specs.declared.due.Final.{Final}
use Rattle.ups_manager.proofs.Reindexed.{none_dropped, dropped_more}
use Rattle.ups_manager.proofs.indexing.remove_each.Goals as goal

pub loop-step-init : goal.loop-step-init
loop-step-init g c = record { steps = none_dropped c.args.index.now.steps; offset = refl }

pub loop-step-preserved : goal.loop-step-preserved
loop-step-preserved g c = record {
  steps = c.remove.ensures.steps ∙ ap (without_uid c.step-item.result.step) c.loop-step.invariant.steps ∙ dropped_more c.args.removed.now c.loop-step.step-index c.step-item.result c.args.index.now.steps c.loop-step-test.true (ap (λ (x : Final). x.step) c.step-item.is);
  offset = c.remove.ensures.offset ∙ c.loop-step.invariant.offset;
}
