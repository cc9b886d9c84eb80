use Rattle.std.proofs.Common.{◌≡◌, ◌+◌, false, sym, ◌∙◌}
use Rattle.ups_compact.specs.declared.shifts.Shift.{Shift}
use Rattle.ups_compact.specs.Shifts.{has_shift, less_by}
use Rattle.ups_compact.proofs.Summing.{on_ok, sum_more, has_with}
use Rattle.ups_compact.proofs.shifts.add_sum.Goals as goal

pub returns : goal.returns
returns g c =
    let x : Shift = record { watcher = c.args.watcher; less = c.in-Some.less } in
    let new : has_shift c.args.sums.now c.args.watcher ≡ false = sym c.has.ensures ∙ c.if-has.false in
    let sum : c.in-Some.less ≡ less_by c.args.first.now c.args.watcher + less_by c.args.second.now c.args.watcher = c.in-Some.ensures.1 ∙ (λ i. c.less_for.ensures i + c.less_for-2.ensures i) in
    record {
      sums = on_ok _ _ c.push.result (λ is before. sum_more c.args.first.now c.args.second.now c.args.sums.now c.push.new.self x is new sum before) c.push.ensures;
      has = on_ok _ _ c.push.result (λ is. has_with c.args.sums.now c.push.new.self x is) c.push.ensures;
    }
