use Rattle.std.proofs.Common.{◌≤◌, List, ℕ, ap, subst, ◌∙◌}
use Rattle.ups_compact.specs.Shifts.{less_by}
use Rattle.ups_compact.proofs.Summing.{none_next, none_all}
use Rattle.ups_compact.proofs.shifts.are_none.Goals as goal

pub loop-shift-preserved : goal.loop-shift-preserved
loop-shift-preserved c =
    none_next c.args.shifts.now c.loop-shift.shift-index c.shift-item.result c.loop-shift-test.true c.shift-item.is c.loop-shift.invariant
    (subst (λ n. n ≤ 0) (c.less_of.ensures ∙ ap (λ (w : List ℕ). less_by c.args.shifts.now w) c.as_bytes.ensures.bytes) c.if-less_of-gt0.false)

pub returns-clause-none : goal.returns-clause-none
returns-clause-none c = λ t. none_all c.args.shifts.now c.loop-shift.shift-index c.loop-shift-test.false c.loop-shift.invariant
