use Rattle.ups_dataset.specs.declared.dictionary.TheConstants.{INPUT_READINESS_STATE}
use Rattle.ups_dataset.specs.Data.{element_at}
use Rattle.ups_life.specs.Steps.{past, row}
use Rattle.ups_manager.proofs.Known.{readiness_known}
use Rattle.ups_manager.proofs.laws.the_readiness_of_a_step_is_known.Goals as goal

pub returns : goal.returns
returns g c = λ s h u is_in. readiness_known (element_at INPUT_READINESS_STATE (row s (past c.args.history.now) u)) (c.a_row_tells_its_state.ensures s h u is_in).readiness
