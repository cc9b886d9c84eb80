use Rattle.std.proofs.Common.{◌++◌, ap, sym, ◌∙◌}
use Rattle.std.specs.Option.{option_copied, option_to_list}
use Rattle.ups_tables.specs.Keyed.{as_steps, row_held}
use Rattle.ups_manager.specs.Finding.{attributes_of}
use Rattle.ups_manager.proofs.Classes.{asked_more}
use Rattle.ups_tables.proofs.Keyed.{row_found}
use Rattle.ups_manager.proofs.worklist.rows_among.Goals as goal

pub loop-candidate-preserved : goal.loop-candidate-preserved
loop-candidate-preserved g c =
    let steps = as_steps c.args.tables.now.steps.entries in
    let us = c.args.candidates.now in
    let i = c.loop-candidate.candidate-index in
    c.in_ok-add_held.ensures.rows
    ∙ ap (λ l. l ++ option_to_list (attributes_of (row_held (option_copied c.find-held.result)))) c.loop-candidate.invariant
    ∙ sym (asked_more steps us i c.candidate-item.result _ c.loop-candidate-test.true c.candidate-item.is (ap row_held c.find-held.ensures ∙ row_found c.candidate-item.result c.args.tables.now.steps.entries))
