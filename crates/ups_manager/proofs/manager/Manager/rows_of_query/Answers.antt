use Rattle.std.proofs.Common.{◌≡◌, List, sym, subst}
use Rattle.std.specs.Prelude.{IfOk}
use Rattle.ups_dataset.specs.Data.{El}
use Rattle.ups_life.specs.Distinct.{Distinct}
use Rattle.ups_life.specs.Steps.{past}
use Rattle.ups_tables.specs.declared.rows.HeldStep.{HeldStep}
use Rattle.ups_tables.specs.Keyed.{as_steps}
use Rattle.ups_tables.proofs.Keyed.{steps_kept}
use Rattle.ups_manager.specs.Indexing.{uids_in}
use Rattle.ups_manager.proofs.Classes.{index_is, class_by_history}
use Rattle.ups_manager.proofs.Reindexed.{are_once}
use Rattle.ups_manager.proofs.manager.Manager.rows_of_query.Goals as goal

pub rows_of_class-requires-clause-indexed : goal.rows_of_class-requires-clause-indexed
rows_of_class-requires-clause-indexed g c =
    let m = c.self.inside in
    index_is m.configuration (past m.history.entries) m.index (as_steps m.tables.steps.entries) c.self.invariant.1 (steps_kept m.configuration m.history.entries m.tables c.self.invariant.0.tables)

pub rows_of_class-requires-clause-once : goal.rows_of_class-requires-clause-once
rows_of_class-requires-clause-once g c =
    let m = c.self.inside in
    subst (λ (hs : List (HeldStep g.row.A.Denot)). Distinct (uids_in hs)) (sym (steps_kept m.configuration m.history.entries m.tables c.self.invariant.0.tables)) (are_once m.configuration (past m.history.entries) c.self.invariant.0.tables.legal)

pub returns-clause-rows : goal.returns-clause-rows
returns-clause-rows g c =
    let m = c.self.inside in
    rw (← c.self.view_is) (subst (λ (all : List (List El)). IfOk c.rows_of_class.result (λ rows. rows ≡ all))
    (class_by_history m.configuration (past m.history.entries) m.index.offset c.args.keys.now (as_steps m.tables.steps.entries) (steps_kept m.configuration m.history.entries m.tables c.self.invariant.0.tables) c.self.invariant.1.offset) c.rows_of_class.ensures.rows)

pub returns-clause-legal : goal.returns-clause-legal
returns-clause-legal g c = rw (← c.self.view_is) c.self.invariant.0.tables.legal
