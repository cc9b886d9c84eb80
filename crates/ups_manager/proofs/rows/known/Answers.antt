use Rattle.std.proofs.Common.{◌∙◌, ap, sym}
use Rattle.ups_tables.specs.HeldSteps.{row_of_step}
use Rattle.ups_tables.specs.Keyed.{as_steps, row_held}
use Rattle.ups_tables.proofs.Keyed.{row_found}
use Rattle.ups_manager.proofs.rows.known.Goals as goal

pub returns-in-Some : goal.returns-in-Some
returns-in-Some g c =
    let entries = c.args.tables.now.steps.entries in
    c.row_of.ensures ∙ ap row_held c.find.ensures ∙ row_found c.in-Some.step entries ∙ ap (λ o. row_of_step o (as_steps entries)) (sym c.in-Some.is)
