use Rattle.std.proofs.Common.{◌≡◌, Some, sym, ap, ◌∙◌, arith}
use Rattle.std.proofs.lemmas.Option.{slice_get-get_or}
use Rattle.std.specs.Prelude.{slice_get}
use Rattle.ups_steps.proofs.Covering.{covered}
use Rattle.ups_steps.proofs.parts.share_part.Goals as goal

pub overflow_mul-k : goal.overflow_mul-k
overflow_mul-k g c = omega (arith, c.requires.within, c.len.ensures.len, c.len.ensures.small)

pub returns-in-Some-Some-clause-part : goal.returns-in-Some-Some-clause-part
returns-in-Some-Some-clause-part g c =
    let found = c.in-Some-Some.ensures.lookup in
    let at : slice_get c.args.parts.now.items c.args.k ≡ Some (Some c.in-Some-Some.part) =
    sym (ap (λ s. slice_get s c.args.k) c.deref.ensures.value) ∙ slice_get-get_or c.deref.result.now c.args.k c.in-Some-Some.field-0.now found.3.0 ∙ ap Some (sym found.1 ∙ c.in-Some-Some.field-0-is) in
    c.in_ok-shared.ensures ∙ covered c.args.k c.args.parts.now.items c.args.places.now.entries c.in-Some-Some.part at c.requires.covers
