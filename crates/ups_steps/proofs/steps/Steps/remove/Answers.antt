use Rattle.std.proofs.Common.{arith}
use Rattle.ups_steps.proofs.Placing.{few_held}
use Rattle.ups_steps.proofs.steps.Steps.remove.Goals as goal

pub overflow_sub-free : goal.overflow_sub-free
overflow_sub-free g c =
    let few = few_held c.free_each.new.places.entries in
    omega (arith, few, c.free_each.ensures.count, c.len.ensures.len)
