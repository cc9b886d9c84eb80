use Rattle.std.proofs.Common.{rules, ◌≡◌, ◌+◌, ◌++◌, min, [], sym, ap, ◌∙◌, append-nil}
use Rattle.ups_rows.specs.Answering.{attributes_of_rows}
use Rattle.ups_steps.specs.Held.{attributes_held}
use Rattle.ups_steps.specs.Places.{held_in}
use Rattle.ups_steps.proofs.Covering.{range_of}
use Rattle.ups_steps.proofs.parts.part_of.Goals as goal

pub returns : goal.returns
returns g c =
    let nil : c.loop-held.held-iterator ≡ [] = search rules in
    c.in_ok-part.ensures ∙ sym (append-nil (attributes_of_rows c.loop-held.rows.items)) ∙ ap (λ l. attributes_of_rows c.loop-held.rows.items ++ attributes_held l) (sym nil) ∙ c.loop-held.invariant
    ∙ ap (λ l. attributes_held (held_in l)) (range_of c.args.start c.min-end.result c.args.places.now.entries c.requires (c.min-end.ensures ∙ ap (λ n. min n (c.args.start + 64)) c.len.ensures.len))
