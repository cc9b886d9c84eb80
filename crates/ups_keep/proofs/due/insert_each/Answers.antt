use Rattle.std.proofs.Common.{rules}
use Rattle.ups_keep.proofs.Dues.{one_more}
use Rattle.ups_keep.proofs.due.insert_each.Goals as goal

pub loop-step-preserved : goal.loop-step-preserved
loop-step-preserved g c =
    let i = c.loop-step.invariant in
    let xs = c.args.steps.now.items in
    let more = c.args.more.now in
    (one_more xs more c.loop-step.steps.items c.insert_into.new.steps.items c.loop-step.step-index _ (search rules) (search rules) i.0 c.insert_into.ensures.steps, search rules, search rules, search rules)
