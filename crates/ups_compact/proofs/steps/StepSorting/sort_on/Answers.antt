use Rattle.std.proofs.Common.{◌≡◌, ◌≤◌, ◌+◌, length, take, drop, ap, refl, arith, ◌∙◌}
use Rattle.ups_compact.proofs.Sorting.{sorted_more}
use Rattle.ups_compact.proofs.steps.StepSorting.sort_on.Goals as goal

pub invariant_of-result : goal.invariant_of-result
invariant_of-result g c =
    let all : c.as_slice.result.now ≡ c.self.inside.steps.items = c.as_slice.ensures.value in
    let low : c.self.inside.sorted + c.min-count.result ≤ length c.self.inside.steps.items = omega (arith, c.self.invariant.within, c.min-count.ensures, c.split_at.ensures.back_len, ap length all) in
    sorted_more c.self.inside.uids c.put_uids.new.uids c.self.inside.sorted c.min-count.result (c.self.inside.sorted + c.min-count.result) c.self.inside.steps.items _ refl low
    (ap (take c.min-count.result) (c.split_at.ensures.back ∙ ap (drop c.self.inside.sorted) all)) c.in_ok-put_uids.ensures c.self.invariant
