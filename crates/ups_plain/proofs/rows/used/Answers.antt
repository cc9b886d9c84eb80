use Rattle.std.proofs.Common.{◌||◌, ap, ◌∙◌}
use Rattle.ups_life.specs.Steps.{uses_uid, used}
use Rattle.ups_plain.proofs.Walks.{walk_step, walk_end}
use Rattle.ups_plain.proofs.rows.used.Goals as goal

pub loop-entry-preserved : goal.loop-entry-preserved
loop-entry-preserved g c =
    walk_step (λ es. used es c.args.uid) c.args.history.now c.loop-entry.entry-index c.entry-item.result c.used_after-found.result c.loop-entry-test.true c.entry-item.is
    (c.used_after-found.ensures ∙ ap (λ b. uses_uid c.args.uid c.entry-item.result.request || b) c.loop-entry.invariant)

pub returns : goal.returns
returns g c = walk_end (λ es. used es c.args.uid) c.args.history.now c.loop-entry.entry-index c.loop-entry.found c.loop-entry-test.false c.loop-entry.invariant
