use Rattle.std.proofs.Common.{◌≡◌, ◌≤◌, ◌+◌, ◌++◌, take}
use Rattle.std.specs.VecDeque.{deque_len, deque_capacity}
use Rattle.std.specs.List.Sorted.{IsNonDecreasingBy, IsPermutation}
use Rattle.ups_keep.specs.Due.{moment_of}
use Rattle.ups_keep.proofs.due.insert_each.Given as goal

abbrev pub invariant-loop-step : goal.invariant-loop-step
invariant-loop-step g l = IsPermutation (l.fn.steps.items ++ take l.step-index l.more) l.steps.items × IsNonDecreasingBy moment_of l.steps.items × (deque_len l.steps ≡ deque_len l.fn.steps + l.step-index) × (deque_capacity l.fn.steps ≤ deque_capacity l.steps)
