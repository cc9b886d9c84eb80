use Rattle.std.proofs.Common.{◌≡◌, take}
use Rattle.ups_keep.specs.Waits.{steps_of}
use Rattle.ups_manager.specs.Indexing.{without_steps}
use Rattle.ups_manager.proofs.indexing.remove_each.Given as goal

abbrev pub invariant-loop-step : goal.invariant-loop-step
invariant-loop-step g l = record {
  steps : l.index.steps ≡ without_steps (steps_of (take l.step-index l.removed)) l.fn.index.steps;
  offset : l.index.offset ≡ l.fn.index.offset;
}
