use Rattle.std.proofs.Common.{◌≡◌, true, false, sym, ap, ◌∙◌}
use Rattle.std.specs.Str.{bytes_eq}
use Rattle.ups_compact.proofs.Summing.{less_here, less_past}
use Rattle.ups_compact.proofs.shifts.less_of.Goals as goal

pub loop-shift-preserved : goal.loop-shift-preserved
loop-shift-preserved c =
    let other : bytes_eq c.shift-item.result.watcher c.args.title.now ≡ false = ap (λ v. bytes_eq v c.args.title.now) (sym c.as_bytes.ensures.bytes) ∙ (sym c.eq.ensures ∙ c.if-eq.false) in
    c.loop-shift.invariant ∙ less_past c.args.shifts.now c.loop-shift.shift-index c.args.title.now c.shift-item.result c.loop-shift-test.true c.shift-item.is other

pub returns-then-eq : goal.returns-then-eq
returns-then-eq c =
    let same : bytes_eq c.shift-item.result.watcher c.args.title.now ≡ true = ap (λ v. bytes_eq v c.args.title.now) (sym c.as_bytes.ensures.bytes) ∙ (sym c.eq.ensures ∙ c.if-eq.true) in
    sym (c.loop-shift.invariant ∙ less_here c.args.shifts.now c.loop-shift.shift-index c.args.title.now c.shift-item.result c.loop-shift-test.true c.shift-item.is same)
