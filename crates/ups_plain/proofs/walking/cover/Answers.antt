use Rattle.std.proofs.Common.{take, ap, ◌∙◌}
use Rattle.ups_life.specs.Steps.{past}
use Rattle.ups_life.specs.Watching.{cover_after, cover}
use Rattle.ups_plain.proofs.Walks.{walk_step, walk_end}
use Rattle.ups_plain.proofs.walking.cover.Goals as goal

pub loop-entry-preserved : goal.loop-entry-preserved
loop-entry-preserved g c =
    let es = past (take c.loop-entry.entry-index c.args.entries.now) in
    let e = c.entry-item.result in
    walk_step (λ es. cover c.args.peers.now es c.args.ae c.args.attributes.now) c.args.entries.now c.loop-entry.entry-index e c.cover_after-found.result c.loop-entry-test.true c.entry-item.is
    (c.cover_after-found.ensures ∙ ap (λ b. cover_after c.args.peers.now c.args.ae c.args.attributes.now b e.request) c.loop-entry.invariant)

pub returns : goal.returns
returns g c = walk_end (λ es. cover c.args.peers.now es c.args.ae c.args.attributes.now) c.args.entries.now c.loop-entry.entry-index c.loop-entry.found c.loop-entry-test.false c.loop-entry.invariant
