use Rattle.std.proofs.Common.{◌++◌, ap, sym, ◌∙◌}
use Rattle.std.specs.Option.{option_copied, option_to_list}
use Rattle.ups_tables.specs.HeldSteps.{row_of_step}
use Rattle.ups_tables.specs.Keyed.{as_steps, row_held}
use Rattle.ups_tables.proofs.Keyed.{row_found}
use Rattle.ups_manager.specs.Finding.{attributes_of}
use Rattle.ups_manager.proofs.Finding.{on_any_err, row_lacks}
use Rattle.ups_manager.proofs.worklist.row_of_step.Goals as goal

pub returns-clause-row : goal.returns-clause-row
returns-clause-row g c =
    let entries = c.args.tables.now.steps.entries in
    c.in_ok-add_held.ensures.rows
    ∙ ap (λ l. l ++ option_to_list (attributes_of (row_held (option_copied c.find-held.result)))) c.new-rows.ensures
    ∙ ap (λ o. option_to_list (attributes_of o)) (ap row_held c.find-held.ensures ∙ row_found c.in-Some.step entries ∙ ap (λ o. row_of_step o (as_steps entries)) (sym c.in-Some.is))

pub returns-in_err-add_held-clause-lacks : goal.returns-in_err-add_held-clause-lacks
returns-in_err-add_held-clause-lacks g c =
    on_any_err c.from_residual.result _ (row_lacks c.args.tables.now.steps.entries c.args.step c.in-Some.step (option_copied c.find-held.result) c.in-Some.is c.find-held.ensures c.in_err-add_held.ensures.lacks)
