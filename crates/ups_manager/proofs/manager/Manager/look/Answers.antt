use Rattle.std.proofs.Common.{◌≡◌, List, ap, sym, subst, ◌∙◌}
use Rattle.std.specs.Prelude.{IfOk}
use Rattle.std.specs.Option.{option_to_list}
use Rattle.ups_dataset.specs.Data.{El}
use Rattle.ups_life.specs.Distinct.{Distinct}
use Rattle.ups_life.specs.Steps.{past}
use Rattle.ups_tables.specs.declared.rows.HeldStep.{HeldStep}
use Rattle.ups_tables.specs.Keyed.{as_steps}
use Rattle.ups_tables.proofs.Keyed.{steps_kept}
use Rattle.ups_manager.specs.Indexing.{uids_in}
use Rattle.ups_manager.proofs.Classes.{index_is, class_by_history}
use Rattle.ups_manager.proofs.Finding.{row_for_get, get_lacks, get_is_small, lacks_any}
use Rattle.ups_manager.proofs.Reindexed.{are_once}
use Rattle.ups_manager.proofs.manager.Manager.look.Goals as goal

pub returns-in-Get-clause-rows : goal.returns-in-Get-clause-rows
returns-in-Get-clause-rows g c =
    let m = c.self.inside in
    rw (← c.self.view_is, c.in-Get.is) (subst (λ (all : List (List El)). IfOk c.row_of_step.result (λ rows. rows ≡ all))
    (ap option_to_list (row_for_get m.configuration (past m.history.entries) c.in-Get.step (as_steps m.tables.steps.entries) (steps_kept m.configuration m.history.entries m.tables c.self.invariant.0.tables))) c.row_of_step.ensures.row)

pub returns-in-Get-clause-lacks : goal.returns-in-Get-clause-lacks
returns-in-Get-clause-lacks g c =
    let m = c.self.inside in
    rw (← c.self.view_is, c.in-Get.is)
    (get_lacks c.row_of_step.result m.configuration (past m.history.entries) c.in-Get.step c.in-Get.attributes (as_steps m.tables.steps.entries) (steps_kept m.configuration m.history.entries m.tables c.self.invariant.0.tables) c.row_of_step.ensures.lacks)

pub returns-in-Get-clause-small : goal.returns-in-Get-clause-small
returns-in-Get-clause-small g c =
    let m = c.self.inside in
    rw (← c.self.view_is, c.in-Get.is)
    (get_is_small m.configuration (past m.history.entries) c.in-Get.step c.in-Get.attributes (as_steps m.tables.steps.entries) (steps_kept m.configuration m.history.entries m.tables c.self.invariant.0.tables) c.self.invariant.0.small)

pub returns-in-Get-clause-legal : goal.returns-in-Get-clause-legal
returns-in-Get-clause-legal g c = rw (← c.self.view_is) c.self.invariant.0.tables.legal

pub returns-in-Find-clause-rows : goal.returns-in-Find-clause-rows
returns-in-Find-clause-rows g c = rw (c.in-Find.is) c.rows_of_query.ensures.rows

pub returns-in-Find-clause-lacks : goal.returns-in-Find-clause-lacks
returns-in-Find-clause-lacks g c = rw (c.in-Find.is) (lacks_any c.rows_of_query.result)

pub returns-in-Find-clause-small : goal.returns-in-Find-clause-small
returns-in-Find-clause-small g c = rw (c.in-Find.is) tt
