use Rattle.std.proofs.Common.{◌++◌, ◌∙◌}
use Rattle.ups_keep.proofs.Waiting.{waits_append, distinct_append, waits_moved, distinct_moved}
use Rattle.ups_tables.proofs.settling.add_freed.Goals as goal

pub returns-clause-waits : goal.returns-clause-waits
returns-clause-waits g c =
    let xs = c.args.due.now.steps in
    let ys = c.args.freed.now in
    λ u. waits_moved (xs ++ ys) c.merge.new.self.steps c.merge.ensures.steps (distinct_append xs ys c.requires.once c.requires.freed c.requires.apart) u ∙ waits_append u xs ys

pub returns-clause-once : goal.returns-clause-once
returns-clause-once g c =
    let xs = c.args.due.now.steps in
    let ys = c.args.freed.now in
    distinct_moved (xs ++ ys) c.merge.new.self.steps c.merge.ensures.steps (distinct_append xs ys c.requires.once c.requires.freed c.requires.apart)
