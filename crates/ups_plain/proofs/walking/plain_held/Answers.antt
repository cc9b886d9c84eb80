use Rattle.std.proofs.Common.{take, ap, ◌∙◌, length, sym}
use Rattle.std.proofs.lemmas.List.Elements.{All-take}
use Rattle.std.proofs.lemmas.Result.{err_from_is_err_and}
use Rattle.ups_life.specs.Settings.{IsMoment}
use Rattle.ups_life.specs.Steps.{past}
use Rattle.ups_life.specs.Watching.{held_after, held}
use Rattle.ups_plain.proofs.Depths.{fails_within}
use Rattle.ups_plain.proofs.Walks.{at_most, walk_step, walk_end}
use Rattle.std.proofs.lemmas.List.{length-take-le}
use Rattle.ups_plain.proofs.walking.plain_held.Goals as goal

pub loop-place-preserved : goal.loop-place-preserved
loop-place-preserved g c =
    let es = past (take c.loop-place.place c.args.entries.now) in
    let e = c.index-entries-place.result in
    walk_step (λ es. held c.args.configuration.now es) c.args.entries.now c.loop-place.place e c.in_ok-steps.steps.items c.loop-place-test.true c.index-entries-place.is
    (c.in_ok-steps.ensures ∙ ap (λ us. held_after c.args.configuration.now es e.moment us e.request) c.loop-place.invariant)

pub returns : goal.returns
returns g c = walk_end (λ es. held c.args.configuration.now es) c.args.entries.now c.loop-place.place c.loop-place.steps.items c.loop-place-test.false c.loop-place.invariant

pub held_after-requires-clause-moments : goal.held_after-requires-clause-moments
held_after-requires-clause-moments g c = All-take (λ e. IsMoment e.moment) c.loop-place.place c.args.entries.now c.requires.moments

pub returns-in_err-steps : goal.returns-in_err-steps
returns-in_err-steps g c =
    let p = err_from_is_err_and c.from_residual.result c.from_residual.ensures.1 in
    rw (p.1, p.2) (fails_within c.args.configuration.now c.args.entries.now c.loop-place.place c.in_err-steps.field-0.0 c.in_err-steps.ensures)

pub held_after-requires-clause-offset : goal.held_after-requires-clause-offset
held_after-requires-clause-offset g c = c.requires.offset

pub slice_bounds-held_after-end : goal.slice_bounds-held_after-end
slice_bounds-held_after-end g c = sym (length-take-le c.loop-place.place c.args.entries.now (at_most c.loop-place.place (length c.args.entries.now) c.loop-place-test.true))
