use Rattle.ups_compact.proofs.Summing.{has_further}
use Rattle.ups_compact.proofs.shifts.add_sums.Goals as goal

pub loop-shift-preserved : goal.loop-shift-preserved
loop-shift-preserved g c = record {
  sums = λ before. c.in_ok-add_sum.ensures.sums (c.loop-shift.invariant.sums before);
  has =
      has_further c.args.sums.now c.loop-shift.sums c.add_sum.new.sums c.args.of.now c.loop-shift.shift-index c.shift-item.result c.loop-shift-test.true c.shift-item.is c.loop-shift.invariant.has
      c.in_ok-add_sum.ensures.has;
}
