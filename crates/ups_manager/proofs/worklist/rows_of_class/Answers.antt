use Rattle.std.proofs.Common.{◌≡◌, List, ap, sym, subst, ◌∙◌}
use Rattle.std.specs.Prelude.{IfOk}
use Rattle.std.specs.List.{filter_map}
use Rattle.ups_dataset.specs.Data.{El}
use Rattle.ups_tables.specs.HeldSteps.{attributes_in}
use Rattle.ups_match.specs.Class.{class}
use Rattle.ups_tables.specs.Keyed.{as_steps}
use Rattle.ups_manager.specs.Finding.{attributes_at}
use Rattle.ups_manager.proofs.Classes.{asked_are, class_of_all, held_attributes}
use Rattle.ups_manager.proofs.worklist.rows_of_class.Given as given
use Rattle.ups_manager.proofs.worklist.rows_of_class.Goals as goal

pub returns-in-None-clause-rows : goal.returns-in-None-clause-rows
returns-in-None-clause-rows g c =
    let hs = as_steps c.args.tables.now.steps.entries in
    subst (λ (all : List (List El)). IfOk c.rows.result (λ rows. rows ≡ all)) (held_attributes c.args.tables.now.steps.entries
    ∙ class_of_all c.args.index.now.offset c.args.keys.now (attributes_in hs) (rw c.in-None.is at c.in_ok-candidates.ensures)) c.rows.ensures.rows

pub returns-in-Some-clause-rows : goal.returns-in-Some-clause-rows
returns-in-Some-clause-rows g c =
    let hs = as_steps c.args.tables.now.steps.entries in
    subst (λ (all : List (List El)). IfOk c.rows_among.result (λ rows. rows ≡ all))
    (asked_are c.args.index.now c.args.keys.now hs c.in-Some.candidates.items c.as_slice.result.now c.requires.indexed c.requires.once (rw c.in-Some.is at c.in_ok-candidates.ensures) c.as_slice.ensures.value) c.rows_among.ensures
