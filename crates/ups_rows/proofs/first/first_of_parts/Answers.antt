use Rattle.std.proofs.Common.{◌++◌, ◌+◌, drop, sym, ap, ◌∙◌}
use Rattle.std.specs.Prelude.{slice_get}
use Rattle.ups_rows.specs.Answering.{rows_of_parts}
use Rattle.ups_rows.proofs.Parts.{from_next, first_here, none_here}
use Rattle.ups_rows.proofs.first.first_of_parts.Goals as goal

pub returns-in-Some : goal.returns-in-Some
returns-in-Some g c =
    let rest = rows_of_parts (drop (c.loop-part.part-index + 1) c.args.parts.now) in
    first_here c.part-item.result rest c.in-Some.attributes.now (c.in-Some.ensures ∙ ap (λ rows. slice_get rows 0) c.rows.ensures)
    ∙ ap (λ rows. slice_get rows 0) (sym (from_next c.args.parts.now c.loop-part.part-index c.part-item.result c.loop-part-test.true c.part-item.is) ∙ c.loop-part.invariant)

pub loop-part-preserved : goal.loop-part-preserved
loop-part-preserved g c =
    let rest = rows_of_parts (drop (c.loop-part.part-index + 1) c.args.parts.now) in
    sym (from_next c.args.parts.now c.loop-part.part-index c.part-item.result c.loop-part-test.true c.part-item.is
    ∙ ap (λ rows. rows ++ rest) (none_here c.part-item.result (c.in_default.ensures ∙ ap (λ rows. slice_get rows 0) c.rows.ensures)))
    ∙ c.loop-part.invariant
