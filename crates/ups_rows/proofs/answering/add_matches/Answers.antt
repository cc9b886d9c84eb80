use Rattle.std.proofs.Common.{arith}
use Rattle.ups_rows.proofs.Adding.{answered_more}
use Rattle.ups_rows.proofs.answering.add_matches.Goals as goal

pub loop-shared-preserved : goal.loop-shared-preserved
loop-shared-preserved g c = record {
  found = answered_more (g.M.Matcher.says c.args.keys.now) c.args.keys.now.attributes c.args.rows.now c.loop-shared.shared-index c.shared-item.result c.args.found.now _ _ c.loop-shared-test.true c.shared-item.is c.loop-shared.invariant.found c.in_ok-add_match.ensures.found;
  count = omega (arith, c.add_match.ensures.count, c.loop-shared.invariant.count);
}
